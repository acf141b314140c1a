-- What is promised of looking for words. Each is a type; a proof of the type is the theorem. Assumes nothing.
use Rattle.std.specs.Prelude.{◌≡◌, ℕ, ◌≤◌, true, false, List, [], ◌∷◌, ◌++◌, length, is_some, Some}
use Rattle.automaton.specs.Text.{Text, has, member}
use Rattle.automaton.specs.Look.{last_word, Found, look}

-- w is a word, the text ends in it, and it ends in no longer one
pub record Longest (ws : List Text) (t w : Text) : Type 0 where
  pub word : member w ws ≡ true
  pub front : Text
  pub ends : t ≡ front ++ w
  pub longest : (u v : Text) → t ≡ u ++ v → member v ws ≡ true → length v ≤ length w

abbrev pub LastWordLaw : Type 0
LastWordLaw = (ws : List Text) (t w : Text) → last_word ws t ≡ Some w → Longest ws t w

-- what is found in the bytes after t: the place of the first byte that completes a word, and the longest word that it completes
pub record FirstWord (ws : List Text) (t more : Text) (f : Found) : Type 0 where
  pub clean : Text
  pub byte : ℕ
  pub rest : Text
  pub splits : more ≡ clean ++ (byte ∷ rest)
  pub place : f.place ≡ length (t ++ clean)
  pub none : has ws (t ++ clean) ≡ false
  pub word : Longest ws ((t ++ clean) ++ (byte ∷ [])) f.word

-- after a text without words, something is found exactly where a word then stands in the text, and it is the first
pub record LookLaw : Type 0 where
  pub tells : (ws : List Text) (t more : Text) → has ws t ≡ false → is_some (look ws t more) ≡ has ws (t ++ more)
  pub first : (ws : List Text) (t more : Text) (f : Found) → has ws t ≡ false → look ws t more ≡ Some f → FirstWord ws t more f
