-- Word lists as bytes: how many words, then each word with its length before it. Assumes nothing.
use Rattle.std.specs.Prelude.{◌≡◌, ℕ, zero, suc, ◌+◌, ◌<◌, ◌≤◌, Bool, true, cond, not, ◌&&◌, ◌||◌, List, [], ◌∷◌, ◌++◌, length, take, drop, Some, None, Ok, Err, Option, Result, ◌==◌, nat_le, nat_lt, slice_index, slice_index_or}
use Rattle.automaton.specs.Text.{Text, member}
use Rattle.fault.specs.declared.Fault.{Fault}
use Rattle.automaton.specs.declared.refusal.ListRefusal.{ListRefusal}
use Rattle.automaton.specs.declared.refusal.ListRefusal.TheVariants.{Cut, TooMuch, Twice}

-- the numbers of the refusals
abbrev pub refusal_number : ListRefusal → ℕ
refusal_number Cut = 1
refusal_number TooMuch = 11
refusal_number Twice = 12

-- words that were read, and how many bytes of the input they took
pub record ReadList : Type 0 where
  pub words : List Text
  pub taken : ℕ

-- the word whose length stands at `at`
abbrev pub word : ℕ → List ℕ → Text
word at bs = take (slice_index bs at) (drop (at + 1) bs)

-- the fault of that word, if it has one, behind words of `size` bytes together
unfoldable pub refusal_at : List Text → ℕ → ℕ → List ℕ → Option ListRefusal
refusal_at ws size at bs =
    cond (nat_le 128 (length ws)) (Some TooMuch)
    (cond (nat_le (length bs) at) (Some Cut)
    (cond (slice_index bs at == 0 || (nat_lt 64 (slice_index bs at) || nat_lt 4096 (size + slice_index bs at))) (Some TooMuch)
    (cond (nat_lt (length bs) (at + 1 + slice_index bs at)) (Some Cut)
    (cond (member (word at bs) ws) (Some Twice) None))))

abbrev pub fault_or : Option ListRefusal → ℕ → Result ReadList (Fault ListRefusal) → Result ReadList (Fault ListRefusal)
fault_or (Some refusal) at later = Err (record { refusal = refusal; at = at })
fault_or None at later = later

-- n words more behind those read so far, of `size` bytes together; the length of the next stands at `at`
unfoldable pub read_words : ℕ → List Text → ℕ → ℕ → List ℕ → Result ReadList (Fault ListRefusal)
read_words zero ws size at bs = Ok (record { words = ws; taken = at })
read_words (suc n) ws size at bs =
    let later : Result ReadList (Fault ListRefusal) = read_words n (ws ++ (word at bs ∷ [])) (size + slice_index bs at) (at + 1 + slice_index bs at) bs in
    fault_or (refusal_at ws size at bs) at later

-- a word list, or the refusal of the first word with a fault and where that word's length stands
abbrev pub word_list : List ℕ → Result ReadList (Fault ListRefusal)
word_list bs = cond (nat_lt 0 (length bs)) (read_words (slice_index bs 0) [] 0 1 bs) (Err (record { refusal = Cut; at = 0 }))

-- Lists that can be read

unfoldable pub total : List Text → ℕ
total [] = 0
total (w ∷ ws) = length w + total ws

-- does no word stand in the list twice
unfoldable pub distinct : List Text → Bool
distinct [] = true
distinct (w ∷ ws) = not (member w ws) && distinct ws

-- up to 128 words of 1 to 64 bytes, 4,096 together, none twice
pub record Valid (ws : List Text) : Type 0 where
  pub few : length ws ≤ 128
  pub some : (k : ℕ) → k < length ws → 0 < length (slice_index_or ws k [])
  pub short : (k : ℕ) → k < length ws → length (slice_index_or ws k []) ≤ 64
  pub small : total ws ≤ 4096
  pub apart : distinct ws ≡ true

-- how such a list is written
unfoldable pub written_words : List Text → List ℕ
written_words [] = []
written_words (w ∷ ws) = length w ∷ (w ++ written_words ws)

abbrev pub written : List Text → List ℕ
written ws = length ws ∷ written_words ws

-- What is promised of word lists. Each is a type; a term of it is its proof.

-- A list that was written is read back, whatever comes after it.
abbrev pub ReadsBack : Type 0
ReadsBack = (ws : List Text) (rest : List ℕ) → Valid ws → word_list (written ws ++ rest) ≡ Ok (record { words = ws; taken = length (written ws) })

-- What is read is such a list, and stands there as it is written.
pub record Stands (bs : List ℕ) (r : ReadList) : Type 0 where
  pub valid : Valid r.words
  pub stands : take r.taken bs ≡ written r.words

abbrev pub ReadsValid : Type 0
ReadsValid = (bs : List ℕ) (r : ReadList) → word_list bs ≡ Ok r → Stands bs r

-- More bytes change no answer, but that the list is cut.
abbrev pub Whole : Result ReadList (Fault ListRefusal) → Type 0
Whole (Ok r) = Unit {0}
Whole (Err f) = f.refusal ≡ Cut → ⊥

abbrev pub ReadsOn : Type 0
ReadsOn = (bs more : List ℕ) → Whole (word_list bs) → word_list (bs ++ more) ≡ word_list bs
