-- Looking at the bytes one after the other finds a word exactly where one comes to stand in the text.
-- Assumes nothing.
use Rattle.std.proofs.Common.{◌≡◌, ℕ, ◌≤◌, Bool, true, false, cond, ◌||◌, List, [], ◌∷◌, ◌++◌, length, is_some, Some, None, Option, sym, refl, ap, ◌∙◌, subst, append_assoc, arith, length-append}
use Rattle.std.proofs.lemmas.List.{append-nil}
use Rattle.std.proofs.lemmas.Bool.{both_ways, cond_both, or_parts}
use Rattle.automaton.specs.Text.{Text, begins, occurs, has, ends_in_some, nonempty, member}
use Rattle.automaton.specs.Look.{last_word, Found, or_found, look}
use Rattle.automaton.specs.LookLaw.{Longest, LastWordLaw, FirstWord, LookLaw}
use Rattle.automaton.proofs.States.{ends_nil, ends_cons}
use Rattle.automaton.proofs.Tail.{has_more}

pub no_word_in_nil : (ws : List Text) → nonempty ws ≡ true → has ws [] ≡ false
unfolding nonempty has occurs begins
no_word_in_nil [] n = refl
no_word_in_nil ([] ∷ ws) n = absurd (both_ways _ refl n)
no_word_in_nil ((x ∷ xs) ∷ ws) n = no_word_in_nil ws n

-- where no word stands in a text, none stands in a first part of it
pub has_first : (ws : List Text) (s t : Text) → has ws (s ++ t) ≡ false → has ws s ≡ false
has_first ws s [] h = rw append-nil at h
has_first ws s (b ∷ t) h =
    (or_parts (has ws s) _ (sym (has_more ws s b) ∙ has_first ws (s ++ (b ∷ [])) t (rw (append_assoc s (b ∷ []) t) h))).0

-- a text ends in a word exactly where it has a last word
last_ends : (ws : List Text) (t : Text) → is_some (last_word ws t) ≡ ends_in_some ws t
unfolding last_word
last_ends ws [] = rw (ends_nil ws) (elim (member [] ws) as (λ v. is_some {T = Text} (cond v (Some []) None) ≡ v) [ true ↦ refl | false ↦ refl ])
last_ends ws (y ∷ ys) =
    rw (ends_cons ws y ys)
    (elim (member (y ∷ ys) ws) as (λ v. is_some (cond v (Some (y ∷ ys)) (last_word ws ys)) ≡ (v || ends_in_some ws ys)) [
      | true ↦ refl
      | false ↦ last_ends ws ys
    ])

-- after a text without words, one more byte makes a word exactly where the text then has a last word
completes : (ws : List Text) (t : Text) (b : ℕ) → has ws t ≡ false → has ws (t ++ (b ∷ [])) ≡ is_some (last_word ws (t ++ (b ∷ [])))
completes ws t b h = has_more ws t b ∙ rw h (sym (last_ends ws (t ++ (b ∷ []))))

-- a word that stands in a text stands in all that it begins
has_longer : (ws : List Text) (s t : Text) → has ws s ≡ true → has ws (s ++ t) ≡ true
has_longer ws s t h = go (has ws (s ++ t)) refl
  where
    go : (b : Bool) → has ws (s ++ t) ≡ b → b ≡ true
    go true e = refl
    go false e = absurd (both_ways _ (has_first ws s t e) h)

look_tells : (ws : List Text) (t more : Text) → has ws t ≡ false → is_some (look ws t more) ≡ has ws (t ++ more)
unfolding look
look_tells ws t [] h = sym (rw append-nil h)
look_tells ws t (b ∷ bs) h = go (look_tells ws (t ++ (b ∷ [])) bs) (last_word ws (t ++ (b ∷ []))) (completes ws t b h) ∙ ap (has ws) (append_assoc t (b ∷ []) bs)
  where
    go : (has ws (t ++ (b ∷ [])) ≡ false → is_some (look ws (t ++ (b ∷ [])) bs) ≡ has ws ((t ++ (b ∷ [])) ++ bs)) →
        (x : Option Text) → has ws (t ++ (b ∷ [])) ≡ is_some x → is_some (or_found x (length t) (look ws (t ++ (b ∷ [])) bs)) ≡ has ws ((t ++ (b ∷ [])) ++ bs)
    go later None e = later e
    go later (Some w) e = sym (has_longer ws (t ++ (b ∷ [])) bs e)

-- the last word is the longest

end_short : (t u v : Text) → t ≡ u ++ v → length v ≤ length t
end_short t u v e = omega (arith, ap length e ∙ length-append u v)

pub last_word_law : LastWordLaw
unfolding last_word
last_word_law ws [] w =
    cond_both (member [] ws) (Some []) None (λ x. x ≡ Some w → Longest ws [] w)
    (λ m e. let q : [] ≡ w = cc in subst (Longest ws []) q (record { word = m; front = []; ends = refl; longest = λ u v s _. end_short [] u v s }))
    (λ _ e. absurd (both_ways _ refl (ap is_some e)))
last_word_law ws (b ∷ t) w =
    cond_both (member (b ∷ t) ws) (Some (b ∷ t)) (last_word ws t) (λ x. x ≡ Some w → Longest ws (b ∷ t) w)
    (λ m e. let q : b ∷ t ≡ w = cc in subst (Longest ws (b ∷ t)) q (record { word = m; front = []; ends = refl; longest = λ u v s _. end_short (b ∷ t) u v s }))
    (λ n e.
    let r = last_word_law ws t w e in
    record { word = r.word; front = b ∷ r.front; ends = ap (λ x. b ∷ x) r.ends; longest = longer n r.longest })
  where
    longer : member (b ∷ t) ws ≡ false → ((u v : Text) → t ≡ u ++ v → member v ws ≡ true → length v ≤ length w) →
        (u v : Text) → b ∷ t ≡ u ++ v → member v ws ≡ true → length v ≤ length w
    longer none rest [] v s m = absurd (both_ways _ none (subst (λ (x : Text). member x ws ≡ true) (sym s) m))
    longer none rest (x ∷ u) v s m = let e : t ≡ u ++ v = cc in rest u v e m

look_first : (ws : List Text) (t more : Text) (f : Found) → has ws t ≡ false → look ws t more ≡ Some f → FirstWord ws t more f
unfolding look
look_first ws t [] f h e = absurd (both_ways _ refl (ap is_some e))
look_first ws t (b ∷ bs) f h e = go (look_first ws (t ++ (b ∷ [])) bs f) (last_word ws (t ++ (b ∷ []))) refl e (completes ws t b h)
  where
    go : (has ws (t ++ (b ∷ [])) ≡ false → look ws (t ++ (b ∷ [])) bs ≡ Some f → FirstWord ws (t ++ (b ∷ [])) bs f) →
        (x : Option Text) → last_word ws (t ++ (b ∷ [])) ≡ x → or_found x (length t) (look ws (t ++ (b ∷ [])) bs) ≡ Some f →
        has ws (t ++ (b ∷ [])) ≡ is_some (last_word ws (t ++ (b ∷ []))) → FirstWord ws t (b ∷ bs) f
    go later (Some w) l q c =
        let is : f ≡ record { place = length t; word = w } = cc in
        record {
          clean = [];
          byte = b;
          rest = bs;
          splits = refl;
          place = rw (append-nil t, is) refl;
          none = rw append-nil h;
          word = rw (append-nil t, is) (last_word_law ws (t ++ (b ∷ [])) w l);
        }
    go later None l q c =
        let r = later (c ∙ ap is_some l) q in
        let move : (t ++ (b ∷ [])) ++ r.clean ≡ t ++ (b ∷ r.clean) = append_assoc t (b ∷ []) r.clean in
        record {
          clean = b ∷ r.clean;
          byte = r.byte;
          rest = r.rest;
          splits = ap (λ x. b ∷ x) r.splits;
          place = r.place ∙ ap length move;
          none = subst (λ (x : Text). has ws x ≡ false) move r.none;
          word = subst (λ (x : Text). Longest ws (x ++ (r.byte ∷ [])) f.word) move r.word;
        }

pub look_law : LookLaw
look_law = record { tells = look_tells; first = look_first }
