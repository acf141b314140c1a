-- Reading word lists, one word after the other.
-- Assumes nothing.
use Rattle.std.proofs.Common.{◌≡◌, ℕ, suc, ◌+◌, ◌-◌, ◌<◌, ◌≤◌, Bool, true, false, ◌||◌, eqb, leb, ltb, List, [], ◌∷◌, ◌++◌, length, get_or, take, drop, Some, None, MatchResult, Ok, Err, vec_items, Decides, Result, Vec, sym, refl, ap, ◌∙◌, subst, inl, inr, arith, rules}
use Rattle.std.specs.declared.alloc.Global.{Global}
use Rattle.std.proofs.lemmas.Slice.Eq.{compares_Decides, slice_eq-Decides}
use Rattle.std.proofs.lemmas.Bool.Decides.{same_from_decides, Decides-eqb, Decides-like, nat_tests}
use Rattle.std.proofs.lemmas.List.{drop-drop, get_or-drop, length-take, length-drop, length-append, take_rest, get_or_append_left, get_or_push, get_or_read}
use Rattle.std.proofs.lemmas.Bool.{cases_lt, cond-true, lt-ltb}
use Rattle.std.specs.Cmp.Lexicographic.{pointwise}
use Rattle.std.specs.List.{list_any}
use Rattle.automaton.specs.Lists.{Valid, distinct, fault_or, read_words, refusal_at, total, word, word_list}
use Rattle.fault.specs.declared.Fault.{Fault}
use Rattle.automaton.specs.declared.refusal.ListRefusal.{ListRefusal}
use Rattle.automaton.specs.Text.{Text, same, member}
use Rattle.automaton.specs.Words.{words_of}
use Rattle.automaton.proofs.States.{member-append}

pub same_decides : (s t : Text) → Decides (same s t) (s ≡ t)
unfolding same
same_decides s t = compares_Decides same (search rules) s t

-- a result before its error was made anew
pub was_ok : {T E : Type 0} (D : Type 0) (r : Result T E) (x : T) → MatchResult r (λ y. ◌≡◌ {A = Result T D} (Ok x) (Ok y)) (λ e. ⊥) → r ≡ Ok x
was_ok D (Ok y) x m = cc
was_ok D (Err e) x m = absurd m

pub was_err : {T E D : Type 0} (r : Result T E) (g : D) (Q : E → Type 0) → MatchResult r (λ y. ◌≡◌ {A = Result T D} (Err g) (Ok y)) Q → (e : E) × (r ≡ Err e) × Q e
was_err (Ok y) g Q m = absurd (let z : ◌≡◌ {A = ℕ} 0 1 = cc in omega arith)
was_err (Err e) g Q m = (e, refl, m)

-- what `==` says of two slices
pub same_slices : (s t : Text) (b : Bool) → b ≡ pointwise eqb s t → b ≡ same t s
same_slices s t b e = same_from_decides b (same t s) (slice_eq-Decides Decides-eqb s t b e) (Decides-like (same t s) sym sym (same_decides t s))

-- one of the words is the text
pub any_member : (t : Text) (vs : List (Vec ℕ Global)) → list_any (λ v. same t (vec_items v)) vs ≡ member t (words_of vs)
unfolding member
any_member t [] = refl
any_member t (v ∷ vs) = ap (λ b. same t (vec_items v) || b) (any_member t vs)

-- a word that stands in a part of the bytes, as all of them have it
module _ (at : ℕ) (bs : List ℕ) where
  rest : take (length bs - at) (drop at bs) ≡ drop at bs
  rest = take_rest bs at

  first : get_or (drop at bs) 0 0 ≡ get_or bs at 0
  first = let e : at + 0 ≡ at = omega arith in get_or-drop at bs 0 0 ∙ ap (λ n. get_or bs n 0) e

  word_drop : word 0 (drop at bs) ≡ word at bs
  word_drop = ap (λ n. take n (drop 1 (drop at bs))) first ∙ ap (take (get_or bs at 0)) (drop-drop 1 at bs)

  pub word_behind : word 0 (take (length bs - at) (drop at bs)) ≡ word at bs
  word_behind = ap (word 0) rest ∙ word_drop

  refusal_drop : (ws : List Text) (size : ℕ) → at ≤ length bs → refusal_at ws size 0 (drop at bs) ≡ refusal_at ws size at bs
  unfolding refusal_at
  refusal_drop ws size l =
      let n = length-drop at bs in
      let a : leb (length (drop at bs)) 0 ≡ leb (length bs) at = grind (arith, nat_tests) in
      let b : ltb (length (drop at bs)) (0 + 1 + get_or bs at 0) ≡ ltb (length bs) (at + 1 + get_or bs at 0) = grind (arith, nat_tests) in
      rw (word_drop, first, a, b) refl

  pub refusal_behind : (ws : List Text) (size : ℕ) → at ≤ length bs → refusal_at ws size 0 (take (length bs - at) (drop at bs)) ≡ refusal_at ws size at bs
  refusal_behind ws size l = ap (refusal_at ws size 0) rest ∙ refusal_drop ws size l

-- a word without a fault
pub record Fine (ws : List Text) (size at : ℕ) (bs : List ℕ) : Type 0 where
  pub few : length ws < 128
  pub some : 0 < get_or bs at 0
  pub short : get_or bs at 0 ≤ 64
  pub small : size + get_or bs at 0 ≤ 4096
  pub within : at + 1 + get_or bs at 0 ≤ length bs
  pub other : member (word at bs) ws ≡ false

pub fine : (ws : List Text) (size at : ℕ) (bs : List ℕ) → refusal_at ws size at bs ≡ None → Fine ws size at bs
unfolding refusal_at
fine ws size at bs e = record {
  few = grind (arith, nat_tests);
  some = grind (arith, nat_tests);
  short = grind (arith, nat_tests);
  small = grind (arith, nat_tests);
  within = grind (arith, nat_tests);
  other = grind (arith, nat_tests);
}

pub total_push : (ws : List Text) (w : Text) → total (ws ++ (w ∷ [])) ≡ total ws + length w
unfolding total
total_push [] w = omega arith
total_push (x ∷ ws) w = let e = total_push ws w in omega arith

pub same_swap : (s t : Text) → same s t ≡ same t s
same_swap s t = same_from_decides (same s t) (same t s) (same_decides s t) (Decides-like (same t s) sym sym (same_decides t s))

distinct_push : (ws : List Text) (w : Text) → distinct ws ≡ true → member w ws ≡ false → distinct (ws ++ (w ∷ [])) ≡ true
unfolding distinct member
distinct_push [] w d n = refl
distinct_push (x ∷ ws) w d n =
    let e : member x (ws ++ (w ∷ [])) ≡ (member x ws || member x (w ∷ [])) = member-append x ws (w ∷ []) in
    let m : member x (w ∷ []) ≡ (same x w || false) = refl in
    let s = same_swap x w in
    let h : distinct ws ≡ true → member w ws ≡ false → distinct (ws ++ (w ∷ [])) ≡ true = distinct_push ws w in
    grind (arith, nat_tests)

pub valid_none : Valid []
unfolding total distinct
valid_none = record { few = omega arith; some = λ k l. omega arith; short = λ k l. omega arith; small = omega arith; apart = refl }

-- one more word
module _ (ws : List Text) (size at : ℕ) (bs : List ℕ) (es : size ≡ total ws) (v : Valid ws) (f : Fine ws size at bs) where
  pub length-word : length (word at bs) ≡ get_or bs at 0
  length-word = simp (length-take, length-drop) (omega (arith, f.within))

  pub size_more : size + get_or bs at 0 ≡ total (ws ++ (word at bs ∷ []))
  size_more = let e = total_push ws (word at bs) in omega (arith, length-word)

  each : (P : ℕ → Type 0) → ((k : ℕ) → k < length ws → P (length (get_or ws k []))) → P (get_or bs at 0) →
      (k : ℕ) → k < length (ws ++ (word at bs ∷ [])) → P (length (get_or (ws ++ (word at bs ∷ [])) k []))
  each P h p k l =
      let e : length (ws ++ (word at bs ∷ [])) ≡ length ws + 1 = length-append ws (word at bs ∷ []) in
      elim (cases_lt k (length ws)) [
        | inl a ↦ subst (λ (w : Text). P (length w)) (sym (get_or_append_left ws (word at bs ∷ []) [] k a)) (h k a)
        | inr a ↦
            let ek : k ≡ length ws = omega arith in
            subst (λ (w : Text). P (length w)) (sym (get_or_push ws (word at bs) [] k (sym ek))) (subst P (sym length-word) p)
      ]

  pub valid_more : Valid (ws ++ (word at bs ∷ []))
  valid_more = record {
    few = simp length-append (omega (arith, f.few));
    some = each (λ n. 0 < n) v.some f.some;
    short = each (λ n. n ≤ 64) v.short f.short;
    small = omega (arith, size_more, f.small);
    apart = distinct_push ws (word at bs) v.apart f.other;
  }

-- a list of n words on its way: i of them were read, and the length of the next stands at `at`
pub record Reading (bs : List ℕ) (n i : ℕ) (ws : List Text) (size at : ℕ) : Type 0 where
  pub left : read_words (n - i) ws size at bs ≡ word_list bs
  pub within : at ≤ length bs
  pub sized : size ≡ total ws
  pub valid : Valid ws

pub reading_none : (bs : List ℕ) (n x : ℕ) → 0 < length bs → x ≡ get_or bs 0 x → n ≡ x → Reading bs n 0 [] 0 1
unfolding total
reading_none bs n x l e en =
    let h : n - 0 ≡ get_or bs 0 0 = omega (arith, get_or_read bs 0 x l e 0) in
    record {
      left = ap (λ m. read_words m [] 0 1 bs) h ∙ sym (cond-true (ltb 0 (length bs)) _ _ (lt-ltb 0 (length bs) l));
      within = omega arith;
      sized = refl;
      valid = valid_none;
    }

module _ (bs : List ℕ) (n i : ℕ) (ws : List Text) (size at : ℕ) (r : Reading bs n i ws size at) where
  next : i < n → fault_or (refusal_at ws size at bs) at (read_words (n - (i + 1)) (ws ++ (word at bs ∷ [])) (size + get_or bs at 0) (at + 1 + get_or bs at 0) bs) ≡ word_list bs
  unfolding read_words
  next l =
      let e : n - i ≡ suc (n - (i + 1)) = omega arith in
      sym (ap (λ m. read_words m ws size at bs) e) ∙ r.left

  pub reading_fault : i < n → (f : Fault ListRefusal) → refusal_at ws size at bs ≡ Some f.refusal → f.at ≡ at → word_list bs ≡ Err f
  reading_fault l f e ea =
      sym (next l) ∙ ap (λ o. fault_or o at (read_words (n - (i + 1)) (ws ++ (word at bs ∷ [])) (size + get_or bs at 0) (at + 1 + get_or bs at 0) bs)) e
      ∙ ap (λ k. Err (record { refusal = f.refusal; at = k })) (sym ea)

  more : i < n → refusal_at ws size at bs ≡ None → Reading bs n (i + 1) (ws ++ (word at bs ∷ [])) (size + get_or bs at 0) (at + 1 + get_or bs at 0)
  more l e =
      let f = fine ws size at bs e in
      record {
        left = sym (ap (λ o. fault_or o at (read_words (n - (i + 1)) (ws ++ (word at bs ∷ [])) (size + get_or bs at 0) (at + 1 + get_or bs at 0) bs)) e) ∙ next l;
        within = f.within;
        sized = size_more ws size at bs r.sized r.valid f;
        valid = valid_more ws size at bs r.sized r.valid f;
      }

  pub reading_more : i < n → refusal_at ws size at bs ≡ None → (w : Text) → w ≡ word at bs → Reading bs n (i + 1) (ws ++ (w ∷ [])) (size + length w) (at + (1 + length w))
  reading_more l e w ew =
      let g : get_or bs at 0 ≡ length w = sym (ap length ew ∙ length-word ws size at bs r.sized r.valid (fine ws size at bs e)) in
      let h : at + 1 + get_or bs at 0 ≡ at + (1 + length w) = omega arith in
      subst (λ (a : ℕ). Reading bs n (i + 1) (ws ++ (w ∷ [])) (size + length w) a) h
      (subst (λ (m : ℕ). Reading bs n (i + 1) (ws ++ (w ∷ [])) (size + m) (at + 1 + get_or bs at 0)) g
      (subst (λ (t : Text). Reading bs n (i + 1) (ws ++ (t ∷ [])) (size + get_or bs at 0) (at + 1 + get_or bs at 0)) (sym ew) (more l e)))

  pub reading_all : n ≤ i → word_list bs ≡ Ok (record { words = ws; taken = at })
  unfolding read_words
  reading_all l =
      let e : n - i ≡ 0 = omega arith in
      sym r.left ∙ ap (λ m. read_words m ws size at bs) e
