-- A word list is read within its bytes. Assumes nothing.
use Rattle.std.proofs.Common.{◌≡◌, ℕ, zero, suc, ◌+◌, ◌<◌, ◌≤◌, ltb, List, [], ◌∷◌, ◌++◌, length, get_or, Some, None, Ok, Err, Option, Result, sym, refl, ap, ◌∙◌, subst, inl, inr, arith}
use Rattle.std.proofs.lemmas.List.{length-append}
use Rattle.std.proofs.lemmas.Bool.Decides.{nat_tests}
use Rattle.std.proofs.lemmas.Bool.{cases_lt, cond-false, cond-true, le-ltb, lt-ltb}
use Rattle.automaton.specs.Text.{Text}
use Rattle.automaton.specs.Lists.{ReadList, fault_or, read_words, refusal_at, word, word_list}
use Rattle.fault.specs.declared.Fault.{Fault}
use Rattle.automaton.specs.declared.refusal.ListRefusal.{ListRefusal}
use Rattle.automaton.specs.declared.refusal.ListRefusal.TheVariants.{Cut}
use Rattle.automaton.proofs.ReadLaws.{Fine, fine}

-- where an answer says that reading ended
abbrev pub Within : ℕ → Result ReadList (Fault ListRefusal) → Type 0
Within n (Ok r) = r.taken ≤ n
Within n (Err f) = f.at ≤ n

words_within : (n : ℕ) (ws : List Text) (size at : ℕ) (bs : List ℕ) → at ≤ length bs → Within (length bs) (read_words n ws size at bs)
unfolding read_words
words_within zero ws size at bs l = l
words_within (suc n) ws size at bs l = go (λ f. words_within n (ws ++ (word at bs ∷ [])) (size + get_or bs at 0) (at + 1 + get_or bs at 0) bs f.within) (refusal_at ws size at bs) refl
  where
    later : Result ReadList (Fault ListRefusal)
    later = read_words n (ws ++ (word at bs ∷ [])) (size + get_or bs at 0) (at + 1 + get_or bs at 0) bs

    go : (Fine ws size at bs → Within (length bs) later) → (o : Option ListRefusal) → refusal_at ws size at bs ≡ o → Within (length bs) (fault_or o at later)
    go on (Some why) e = l
    go on None e = on (fine ws size at bs e)

pub list_within : (bs : List ℕ) → Within (length bs) (word_list bs)
list_within bs =
    elim (cases_lt 0 (length bs)) [
      | inl l ↦ subst (Within (length bs)) (sym (cond-true (ltb 0 (length bs)) _ _ (lt-ltb 0 (length bs) l))) (words_within (get_or bs 0 0) [] 0 1 bs (omega arith))
      | inr l ↦ subst (Within (length bs)) (sym (cond-false (ltb 0 (length bs)) _ _ (le-ltb 0 (length bs) l))) (omega arith)
    ]

-- A list that is cut is short.

cut_near : (ws : List Text) (size at : ℕ) (bs : List ℕ) → size ≤ 4096 → refusal_at ws size at bs ≡ Some Cut → (length ws < 128) × (length bs + size ≤ at + 4097)
unfolding refusal_at
cut_near ws size at bs l e = (grind (arith, nat_tests), grind (arith, nat_tests))

words_cut : (n : ℕ) (ws : List Text) (size at : ℕ) (bs : List ℕ) (f : Fault ListRefusal) → f.refusal ≡ Cut → size ≤ 4096 → at ≤ 1 + length ws + size → read_words n ws size at bs ≡ Err f → length bs ≤ 4225
unfolding read_words
words_cut zero ws size at bs f c l m e = absurd (let z : ◌≡◌ {A = ℕ} 0 1 = cc in omega arith)
words_cut (suc n) ws size at bs f c l m e =
    go (λ g. words_cut n (ws ++ (word at bs ∷ [])) (size + get_or bs at 0) (at + 1 + get_or bs at 0) bs f c g.small (let k = length-append ws (word at bs ∷ []) in omega arith)) (refusal_at ws size at bs) refl e
  where
    later : Result ReadList (Fault ListRefusal)
    later = read_words n (ws ++ (word at bs ∷ [])) (size + get_or bs at 0) (at + 1 + get_or bs at 0) bs

    go : (Fine ws size at bs → later ≡ Err f → length bs ≤ 4225) → (o : Option ListRefusal) → refusal_at ws size at bs ≡ o → fault_or o at later ≡ Err f → length bs ≤ 4225
    go on (Some why) o e =
        let p : record { refusal = why; at = at } ≡ f = cc in
        let w : why ≡ Cut = ap (λ (g : Fault ListRefusal). g.refusal) p ∙ c in
        let k = cut_near ws size at bs l (o ∙ ap Some w) in
        omega (arith, k.0, k.1)
    go on None o e = on (fine ws size at bs o) e

pub list_cut_short : (bs : List ℕ) (f : Fault ListRefusal) → f.refusal ≡ Cut → word_list bs ≡ Err f → length bs ≤ 4225
list_cut_short bs f c e =
    elim (cases_lt 0 (length bs)) [
      | inl l ↦ words_cut (get_or bs 0 0) [] 0 1 bs f c (omega arith) (omega arith) (sym (cond-true (ltb 0 (length bs)) _ _ (lt-ltb 0 (length bs) l)) ∙ e)
      | inr l ↦ omega arith
    ]
