-- Looking for words in the bytes that come after a text. Assumes nothing.
use Rattle.std.specs.Prelude.{ℕ, cond, List, [], ◌∷◌, ◌++◌, length, Some, None, Option}
use Rattle.automaton.specs.Text.{Text, member}

-- the longest word that a text ends in
unfoldable pub last_word : List Text → Text → Option Text
last_word ws [] = cond (member [] ws) (Some []) None
last_word ws (b ∷ bs) =
    let shorter : Option Text = last_word ws bs in
    cond (member (b ∷ bs) ws) (Some (b ∷ bs)) shorter

-- a word found: the place of the byte that completes it, and the word
pub record Found : Type 0 where
  pub place : ℕ
  pub word : Text

abbrev pub or_found : Option Text → ℕ → Option Found → Option Found
or_found (Some w) i later = Some (record { place = i; word = w })
or_found None i later = later

-- the bytes that come after a text are looked at one after the other, up to the first that completes a word
unfoldable pub look : List Text → Text → Text → Option Found
look ws t [] = None
look ws t (b ∷ bs) =
    let later : Option Found = look ws (t ++ (b ∷ [])) bs in
    or_found (last_word ws (t ++ (b ∷ []))) (length t) later
