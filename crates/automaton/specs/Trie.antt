-- A table that holds only the words' own beginnings: what one byte more of a word does to it. Assumes nothing.
use Rattle.std.specs.Prelude.{◌≡◌, ℕ, ◌+◌, ◌*◌, ◌<◌, ◌≤◌, cond, List, [], ◌∷◌, ◌++◌, length, replicate, Some, None, Option, ◌==◌, slice_index, slice_index_or, slice_set}
use Rattle.automaton.specs.Text.{Text, member}
use Rattle.automaton.specs.States.{place, states}

-- the state reached over the entry at k, and what the table then holds: where there was none, a new state with an empty row
abbrev pub reached : List ℕ → ℕ → ℕ → ℕ
reached rows n k = cond (slice_index rows k == 0) n (slice_index rows k)

abbrev pub grown_rows : List ℕ → ℕ → ℕ → List ℕ
grown_rows rows n k = cond (slice_index rows k == 0) (slice_set (rows ++ replicate 256 0) k n) rows

abbrev pub grown_tells : List ℕ → ℕ → List (Option ℕ) → List (Option ℕ)
grown_tells rows k tells = cond (slice_index rows k == 0) (tells ++ (None ∷ [])) tells

-- the number of a word that is all of the text
unfoldable pub word_at : List Text → Text → Option ℕ
word_at ws t = cond (member t ws) (Some (place t ws)) None

-- the place of a text among those seen, 0 where it is none of them
unfoldable pub place_or0 : List Text → Text → ℕ
place_or0 seen t = cond (member t seen) (place t seen) 0

-- a state's text with one byte more
abbrev pub onward : List Text → ℕ → ℕ → Text
onward seen s b = slice_index_or seen s [] ++ (b ∷ [])

-- a table holds the beginnings seen so far, and the words
pub record Trie (seen ws : List Text) (rows : List ℕ) (tells : List (Option ℕ)) : Type 0 where
  pub rows_len : length rows ≡ length seen * 256
  pub tells_len : length tells ≡ length seen
  pub goes : (s b : ℕ) → s < length seen → b < 256 → slice_index rows (s * 256 + b) ≡ place_or0 seen (onward seen s b)
  pub ends : (s : ℕ) → s < length seen → slice_index_or tells s None ≡ word_at ws (slice_index_or seen s [])

-- the table holds the beginnings of all the words
abbrev pub TrieOf : List Text → List ℕ → List (Option ℕ) → Type 0
TrieOf ws rows tells = Trie (states ws) ws rows tells

-- the table holds some n words, and there is room for one more
pub record Holds (n : ℕ) (w : Text) (rows : List ℕ) (tells : List (Option ℕ)) : Type 0 where
  pub words : List Text
  pub many : length words ≡ n
  pub trie : TrieOf words rows tells
  pub fits : length (states (words ++ (w ∷ []))) ≤ 4097
