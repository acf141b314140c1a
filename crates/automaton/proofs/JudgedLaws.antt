-- Looks at bytes that come in several parts.
-- Assumes nothing.
use Rattle.std.proofs.Common.{◌≡◌, ℕ, List, [], ◌∷◌, ◌++◌, length, Some, None, Option, sym, ap, ◌∙◌, append_assoc, arith}
use Rattle.std.proofs.lemmas.List.{append-nil}
use Rattle.automaton.specs.Look.{last_word, look, or_found}
use Rattle.automaton.specs.Text.{Text}

-- where the first bytes complete no word, the others are looked at after them
pub look-append : (ws : List Text) (xs ys t : Text) → look ws t xs ≡ None → look ws t (xs ++ ys) ≡ look ws (t ++ xs) ys
unfolding look
look-append ws [] ys t e = ap (λ u. look ws u ys) (sym (append-nil t))
look-append ws (x ∷ xs) ys t e = go (look-append ws xs ys (t ++ (x ∷ []))) (last_word ws (t ++ (x ∷ []))) e
  where
    go : (look ws (t ++ (x ∷ [])) xs ≡ None → look ws (t ++ (x ∷ [])) (xs ++ ys) ≡ look ws ((t ++ (x ∷ [])) ++ xs) ys) →
        (o : Option Text) → or_found o (length t) (look ws (t ++ (x ∷ [])) xs) ≡ None → or_found o (length t) (look ws (t ++ (x ∷ [])) (xs ++ ys)) ≡ look ws (t ++ (x ∷ xs)) ys
    go h (Some w) g = absurd (let z : ◌≡◌ {A = ℕ} 0 1 = cc in omega arith)
    go h None g = h g ∙ ap (λ u. look ws u ys) (append_assoc t (x ∷ []) xs)
