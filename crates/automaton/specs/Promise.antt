-- What is promised of the remembered end of a text, and of the automaton that remembers it. Each is a type; a term of it is its proof. Assumes nothing.
use Rattle.std.specs.Prelude.{◌≡◌, ℕ, ◌<◌, ◌≤◌, true, false, ◌||◌, T, List, [], ◌∷◌, ◌++◌, length, is_some, Some, None, slice_index_or}
use Rattle.automaton.specs.Text.{Text, has, begins_some, tail, same, ends_in, ends_in_some, nonempty, member}
use Rattle.automaton.specs.States.{states, text_of, goto, run, tells_of, last_index}

-- The longest end with which a word begins is enough to go on: nothing else of the past need be kept.
abbrev pub TailEnough : Type 0
TailEnough = (ws : List Text) (t : Text) (b : ℕ) → tail ws (t ++ (b ∷ [])) ≡ tail ws (tail ws t ++ (b ∷ []))

-- And it tells when a word has just been completed.
abbrev pub TailTells : Type 0
TailTells =
    (ws : List Text) → T (nonempty ws) → (t : Text) (b : ℕ) → has ws t ≡ false → has ws (t ++ (b ∷ [])) ≡ ends_in_some ws (tail ws (t ++ (b ∷ [])))

-- A run over a text ends in the state whose text is the remembered end.
abbrev pub RunRemembers : Type 0
RunRemembers = (ws : List Text) (t : Text) → text_of ws (run ws 0 t) ≡ tail ws t

-- After a text without words, the next byte completes a word exactly where the state then tells of one; and it is the longest that the text then ends in.
abbrev pub RunTells : Type 0
RunTells =
    (ws : List Text) (t : Text) (b : ℕ) → has ws t ≡ false →
    (has ws (t ++ (b ∷ [])) ≡ is_some (tells_of ws (run ws 0 (t ++ (b ∷ []))))) × (tells_of ws (run ws 0 (t ++ (b ∷ []))) ≡ last_index ws (t ++ (b ∷ [])))

-- The states are the empty text and the beginnings of the words, and none of them stands twice.
abbrev pub StatesAre : Type 0
StatesAre =
    (ws : List Text) →
    ((t : Text) → member t (states ws) ≡ (same t [] || begins_some ws t)) ×
    ((s u : ℕ) → s < length (states ws) → u < length (states ws) → text_of ws s ≡ text_of ws u → s ≡ u)

-- From a state and a byte the automaton goes to a state; its text is an end of the state's text with the byte after it, and no longer end is a state.
abbrev pub GoesToLongest : Type 0
GoesToLongest =
    (ws : List Text) (s b : ℕ) →
    (goto ws s b < length (states ws)) ×
    ((front : Text) × (text_of ws s ++ (b ∷ []) ≡ front ++ text_of ws (goto ws s b))) ×
    ((front end : Text) → text_of ws s ++ (b ∷ []) ≡ front ++ end → member end (states ws) ≡ true → length end ≤ length (text_of ws (goto ws s b)))

-- The word that a state tells of is in the list, its text ends in it, and it ends in no longer word of the list.
abbrev pub TellsLongest : Type 0
TellsLongest =
    (ws : List Text) (t : Text) (i : ℕ) → last_index ws t ≡ Some i →
    (i < length ws) × (ends_in (slice_index_or ws i []) t ≡ true) × ((w : Text) → member w ws ≡ true → ends_in w t ≡ true → length w ≤ length (slice_index_or ws i []))

-- Words `abc` and `bd`: the states, and where `d` leads after `ab`. Words `aab`: a text `aaab` is found out at its last byte, and not before.
abbrev pub Examples : Type 0
Examples =
    (states ((97 ∷ 98 ∷ 99 ∷ []) ∷ (98 ∷ 100 ∷ []) ∷ []) ≡
    [] ∷ (97 ∷ []) ∷ (97 ∷ 98 ∷ []) ∷ (97 ∷ 98 ∷ 99 ∷ []) ∷ (98 ∷ []) ∷ (98 ∷ 100 ∷ []) ∷ []) ×
    (goto ((97 ∷ 98 ∷ 99 ∷ []) ∷ (98 ∷ 100 ∷ []) ∷ []) 2 100 ≡ 5) ×
    (tells_of ((97 ∷ 98 ∷ 99 ∷ []) ∷ (98 ∷ 100 ∷ []) ∷ []) 5 ≡ Some 1) ×
    (tells_of ((97 ∷ 97 ∷ 98 ∷ []) ∷ []) (run ((97 ∷ 97 ∷ 98 ∷ []) ∷ []) 0 (97 ∷ 97 ∷ 97 ∷ [])) ≡ None) ×
    (tells_of ((97 ∷ 97 ∷ 98 ∷ []) ∷ []) (run ((97 ∷ 97 ∷ 98 ∷ []) ∷ []) 0 (97 ∷ 97 ∷ 97 ∷ 98 ∷ [])) ≡ Some 0)
