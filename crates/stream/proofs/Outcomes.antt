-- All that may be done with a segment.
-- Assumes nothing.
use Rattle.std.proofs.Common.{◌≡◌, ℕ, true, false, not, ◌&&◌, List, [], ◌∷◌, is_some, Some, None, Option, refl}
use Rattle.std.proofs.lemmas.Bool.{both_ways, cond_both, and_parts, not-true}
use Rattle.automaton.specs.Text.{Text}
use Rattle.automaton.specs.Look.{Found, look}
use Rattle.stream.specs.Stream.{Stream, new_text}
use Rattle.stream.specs.Steps.{Segment, piece_of, fin_left, piece_left, Outcome, Passed, Empty, Word, Closed, is_empty, on_look, outcome}

pub data Done (width : ℕ) (words : List Text) (s : Stream) (a : Segment) : Outcome → Type 0 where
  closed : s.shut ≡ true → Done width words s a Closed
  word : s.shut ≡ false → (found : Found) → look words s.text (new_text width s (piece_of a)) ≡ Some found → Done width words s a (Word found)
  empty : s.shut ≡ false → look words s.text (new_text width s (piece_of a)) ≡ None → (piece_left width s a).bytes ≡ [] → fin_left width s a ≡ None →
      Done width words s a Empty
  passes : s.shut ≡ false → look words s.text (new_text width s (piece_of a)) ≡ None → Done width words s a (Passed (piece_left width s a) (fin_left width s a))

pub nil_since : (t : Text) → is_empty t ≡ true → t ≡ []
nil_since [] e = refl
nil_since (b ∷ bs) e = absurd (both_ways _ refl e)

none_since : (x : Option ℕ) → is_some x ≡ false → x ≡ None
none_since None e = refl
none_since (Some b) e = absurd (both_ways _ e refl)

module _ (width : ℕ) (words : List Text) (s : Stream) (a : Segment) where
  looked : s.shut ≡ false → (x : Option Found) → look words s.text (new_text width s (piece_of a)) ≡ x →
      Done width words s a (on_look (piece_left width s a) (fin_left width s a) x)
  looked up (Some found) e = word up found e
  looked up None e =
      cond_both (is_empty (piece_left width s a).bytes && not (is_some (fin_left width s a))) Empty (Passed (piece_left width s a) (fin_left width s a)) (Done width words s a)
      (λ none. let parts = and_parts (is_empty (piece_left width s a).bytes) _ none in
      empty up e (nil_since _ parts.0) (none_since _ (not-true _ parts.1)))
      (λ _. passes up e)

  pub done : Done width words s a (outcome width words s a)
  done =
      cond_both s.shut Closed (on_look (piece_left width s a) (fin_left width s a) (look words s.text (new_text width s (piece_of a)))) (Done width words s a)
      closed (λ up. looked up (look words s.text (new_text width s (piece_of a))) refl)
