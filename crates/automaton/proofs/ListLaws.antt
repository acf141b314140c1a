-- Word lists are read back as they are written, and more bytes change no answer.
-- Assumes nothing.
use Rattle.std.proofs.Common.{◌≡◌, ℕ, zero, suc, ◌+◌, ◌<◌, ◌≤◌, true, false, ◌||◌, ltb, List, [], ◌∷◌, ◌++◌, length, get_or, take, drop, Some, None, Ok, Err, Option, Result, sym, refl, ap, ◌∙◌, subst, inl, inr, append_assoc, arith, take-add}
use Rattle.std.proofs.lemmas.List.{length-append, get_or_append_left, take-append-le, drop-append-le, append-nil, length-drop, take_more, take_all, get_or_at, drop_at}
use Rattle.std.proofs.lemmas.Bool.{cases_lt, cond-false, cond-true, le-ltb, lt-ltb}
use Rattle.std.proofs.lemmas.Bool.Decides.{nat_tests}
use Rattle.automaton.specs.Text.{Text, member, same}
use Rattle.automaton.specs.Lists.{ReadList, ReadsBack, ReadsOn, ReadsValid, Valid, Whole, distinct, fault_or, read_words, refusal_at, total, word, word_list, written, written_words}
use Rattle.fault.specs.declared.Fault.{Fault}
use Rattle.automaton.specs.declared.refusal.ListRefusal.{ListRefusal}
use Rattle.automaton.specs.declared.refusal.ListRefusal.TheVariants.{Cut}
use Rattle.automaton.proofs.ReadLaws.{Fine, fine, length-word, same_swap, total_push, valid_none, valid_more, size_more}
use Rattle.automaton.proofs.States.{member-append}

-- what stands at a word's length is the same where more bytes follow
module _ (ws : List Text) (size at : ℕ) (bs more : List ℕ) where
  long : length (bs ++ more) ≡ length bs + length more
  long = length-append bs more

  word_on : at + 1 + get_or bs at 0 ≤ length bs → word at (bs ++ more) ≡ word at bs
  word_on l =
      let g : get_or (bs ++ more) at 0 ≡ get_or bs at 0 = get_or_append_left bs more 0 at (omega arith) in
      let d : drop (at + 1) (bs ++ more) ≡ drop (at + 1) bs ++ more = drop-append-le (at + 1) bs more (omega arith) in
      ap (λ n. take n (drop (at + 1) (bs ++ more))) g ∙ ap (take (get_or bs at 0)) d
      ∙ take-append-le (get_or bs at 0) (drop (at + 1) bs) more (simp length-drop (omega arith))

  refusal_on : (refusal_at ws size at bs ≡ Some Cut → ⊥) → refusal_at ws size at (bs ++ more) ≡ refusal_at ws size at bs
  unfolding refusal_at
  refusal_on n =
      let l = long in
      elim (cases_lt at (length bs)) [
        | inl a ↦
            let g : get_or (bs ++ more) at 0 ≡ get_or bs at 0 = get_or_append_left bs more 0 at a in
            elim (cases_lt (length bs) (at + 1 + get_or bs at 0)) [
              | inl b ↦ grind (arith, nat_tests)
              | inr b ↦ let w : member (word at (bs ++ more)) ws ≡ member (word at bs) ws = ap (λ t. member t ws) (word_on b) in grind (arith, nat_tests)
            ]
        | inr a ↦ grind (arith, nat_tests)
      ]

whole_refusal : (o : Option ListRefusal) (at : ℕ) (later : Result ReadList (Fault ListRefusal)) → Whole (fault_or o at later) → o ≡ Some Cut → ⊥
whole_refusal None at later w e = let z : ◌≡◌ {A = ℕ} 0 1 = cc in omega arith
whole_refusal (Some why) at later w e = let z : why ≡ Cut = cc in w z

words_on : (n : ℕ) (ws : List Text) (size at : ℕ) (bs more : List ℕ) → Whole (read_words n ws size at bs) → read_words n ws size at (bs ++ more) ≡ read_words n ws size at bs
unfolding read_words
words_on zero ws size at bs more w = refl
words_on (suc n) ws size at bs more w =
    ap (λ o. fault_or o at (later (bs ++ more))) (refusal_on ws size at bs more (whole_refusal (refusal_at ws size at bs) at (later bs) w)) ∙ go (words_on n (ws ++ (word at bs ∷ [])) (size + get_or bs at 0) (at + 1 + get_or bs at 0) bs more) (refusal_at ws size at bs) refl w
  where
    later : List ℕ → Result ReadList (Fault ListRefusal)
    later cs = read_words n (ws ++ (word at cs ∷ [])) (size + get_or cs at 0) (at + 1 + get_or cs at 0) cs

    go : (Whole (later bs) → read_words n (ws ++ (word at bs ∷ [])) (size + get_or bs at 0) (at + 1 + get_or bs at 0) (bs ++ more) ≡ later bs) →
        (o : Option ListRefusal) → refusal_at ws size at bs ≡ o → Whole (fault_or o at (later bs)) → fault_or o at (later (bs ++ more)) ≡ fault_or o at (later bs)
    go on (Some why) e v = refl
    go on None e v =
        let f = fine ws size at bs e in
        let g : get_or (bs ++ more) at 0 ≡ get_or bs at 0 = get_or_append_left bs more 0 at (omega (arith, f.within)) in
        ap (λ t. read_words n (ws ++ (t ∷ [])) (size + get_or (bs ++ more) at 0) (at + 1 + get_or (bs ++ more) at 0) (bs ++ more)) (word_on ws size at bs more f.within)
        ∙ ap (λ k. read_words n (ws ++ (word at bs ∷ [])) (size + k) (at + 1 + k) (bs ++ more)) g
        ∙ on v

pub reads_on : ReadsOn
reads_on bs more w =
    elim (cases_lt 0 (length bs)) [
      | inl l ↦
          let e : word_list bs ≡ read_words (get_or bs 0 0) [] 0 1 bs = cond-true (ltb 0 (length bs)) _ _ (lt-ltb 0 (length bs) l) in
          let l' : 0 < length (bs ++ more) = simp length-append (omega arith) in
          cond-true (ltb 0 (length (bs ++ more))) _ _ (lt-ltb 0 (length (bs ++ more)) l') ∙ ap (λ n. read_words n [] 0 1 (bs ++ more)) (get_or_append_left bs more 0 0 l)
          ∙ words_on (get_or bs 0 0) [] 0 1 bs more (subst Whole e w) ∙ sym e
      | inr l ↦ absurd (subst Whole (cond-false (ltb 0 (length bs)) _ _ (le-ltb 0 (length bs) l)) w refl)
    ]

-- What is read is a list as it is written.

written_push : (ws : List Text) (w : Text) → written_words (ws ++ (w ∷ [])) ≡ written_words ws ++ (length w ∷ w)
unfolding written_words
written_push [] w = ap (λ t. length w ∷ t) (append-nil w)
written_push (x ∷ ws) w = ap (λ t. length x ∷ t) (ap (λ t. x ++ t) (written_push ws w) ∙ sym (append_assoc x (written_words ws) (length w ∷ w)))

take-word : (at : ℕ) (bs : List ℕ) → at < length bs → take (at + 1 + get_or bs at 0) bs ≡ take at bs ++ (get_or bs at 0 ∷ word at bs)
take-word at bs l = take-add (at + 1) (get_or bs at 0) bs ∙ ap (λ t. t ++ word at bs) (take_more bs at 0 l) ∙ append_assoc (take at bs) (get_or bs at 0 ∷ []) (word at bs)

-- so far so good: the words that were read stand there behind the count c
record Read (c : ℕ) (bs : List ℕ) (ws : List Text) (size at : ℕ) : Type 0 where
  sized : size ≡ total ws
  valid : Valid ws
  stands : take at bs ≡ c ∷ written_words ws

read_more : (c : ℕ) (bs : List ℕ) (ws : List Text) (size at : ℕ) → Read c bs ws size at → Fine ws size at bs → Read c bs (ws ++ (word at bs ∷ [])) (size + get_or bs at 0) (at + 1 + get_or bs at 0)
read_more c bs ws size at r f = record {
  sized = size_more ws size at bs r.sized r.valid f;
  valid = valid_more ws size at bs r.sized r.valid f;
  stands =
      take-word at bs (omega (arith, f.within)) ∙ ap (λ t. t ++ (get_or bs at 0 ∷ word at bs)) r.stands
      ∙ ap (λ n. c ∷ (written_words ws ++ (n ∷ word at bs))) (sym (length-word ws size at bs r.sized r.valid f)) ∙ ap (λ t. c ∷ t) (sym (written_push ws (word at bs)));
}

record ReadAll (n c : ℕ) (bs : List ℕ) (ws : List Text) (r : ReadList) : Type 0 where
  valid : Valid r.words
  stands : take r.taken bs ≡ c ∷ written_words r.words
  many : length r.words ≡ length ws + n

read_all : (n c : ℕ) (ws : List Text) (size at : ℕ) (bs : List ℕ) (r : ReadList) → Read c bs ws size at → read_words n ws size at bs ≡ Ok r → ReadAll n c bs ws r
unfolding read_words
read_all zero c ws size at bs r h e =
    let p : record { words = ws; taken = at } ≡ r = cc in
    subst (ReadAll 0 c bs ws) p (record { valid = h.valid; stands = h.stands; many = omega arith })
read_all (suc n) c ws size at bs r h e = go (λ f. read_all n c (ws ++ (word at bs ∷ [])) (size + get_or bs at 0) (at + 1 + get_or bs at 0) bs r (read_more c bs ws size at h f)) (refusal_at ws size at bs) refl e
  where
    later : Result ReadList (Fault ListRefusal)
    later = read_words n (ws ++ (word at bs ∷ [])) (size + get_or bs at 0) (at + 1 + get_or bs at 0) bs

    go : (Fine ws size at bs → later ≡ Ok r → ReadAll n c bs (ws ++ (word at bs ∷ [])) r) → (o : Option ListRefusal) → refusal_at ws size at bs ≡ o → fault_or o at later ≡ Ok r → ReadAll (suc n) c bs ws r
    go on (Some why) d g = absurd (let z : ◌≡◌ {A = ℕ} 0 1 = cc in omega arith)
    go on None d g =
        let a = on (fine ws size at bs d) g in
        record { valid = a.valid; stands = a.stands; many = a.many ∙ simp length-append (omega arith) }

-- the answer of a list that was read is not that it is cut
list_words : (bs : List ℕ) (r : ReadList) → word_list bs ≡ Ok r → (0 < length bs) × (read_words (get_or bs 0 0) [] 0 1 bs ≡ Ok r)
list_words bs r e =
    elim (cases_lt 0 (length bs)) [
      | inl l ↦ (l, sym (cond-true (ltb 0 (length bs)) _ _ (lt-ltb 0 (length bs) l)) ∙ e)
      | inr l ↦
          absurd (let f = sym (cond-false (ltb 0 (length bs)) (read_words (get_or bs 0 0) [] 0 1 bs) (Err (record { refusal = Cut; at = 0 })) (le-ltb 0 (length bs) l)) ∙ e in
          let z : ◌≡◌ {A = ℕ} 0 1 = cc in omega arith)
    ]

pub reads_valid : ReadsValid
unfolding total written_words
reads_valid bs r e =
    let p = list_words bs r e in
    let first : take 1 bs ≡ get_or bs 0 0 ∷ [] = take_more bs 0 0 p.0 in
    let a = read_all (get_or bs 0 0) (get_or bs 0 0) [] 0 1 bs r (record { sized = refl; valid = valid_none; stands = first }) p.1 in
    let m : get_or bs 0 0 ≡ length r.words = omega (arith, a.many) in
    record { valid = a.valid; stands = a.stands ∙ ap (λ n. n ∷ written_words r.words) m }

-- What is written is read back.

total-append : (xs ys : List Text) → total (xs ++ ys) ≡ total xs + total ys
unfolding total
total-append [] ys = omega arith
total-append (x ∷ xs) ys = let e = total-append xs ys in omega arith

distinct-not-before : (xs ys : List Text) (w : Text) → distinct (xs ++ (w ∷ ys)) ≡ true → member w xs ≡ false
unfolding distinct member
distinct-not-before [] ys w d = refl
distinct-not-before (x ∷ xs) ys w d =
    let e : member x (xs ++ (w ∷ ys)) ≡ (member x xs || (same x w || member x ys)) = member-append x xs (w ∷ ys) in
    let s = same_swap x w in
    let h : distinct (xs ++ (w ∷ ys)) ≡ true → member w xs ≡ false = distinct-not-before xs ys w in
    grind (arith, nat_tests)

-- a word that was written behind some bytes
module _ (pre w rest : List ℕ) where
  abbrev behind : List ℕ
  behind = pre ++ (length w ∷ (w ++ rest))

  size_there : get_or behind (length pre) 0 ≡ length w
  size_there = get_or_at pre (length w) (w ++ rest) 0 (length pre) refl

  long_there : length behind ≡ length pre + (1 + (length w + length rest))
  long_there = length-append pre (length w ∷ (w ++ rest)) ∙ (let e = length-append w rest in omega arith)

  behind_is : behind ≡ (pre ++ (length w ∷ [])) ++ (w ++ rest)
  behind_is = sym (append_assoc pre (length w ∷ []) (w ++ rest))

  word_there : word (length pre) behind ≡ w
  word_there =
      ap (λ n. take n (drop (length pre + 1) behind)) size_there
      ∙ ap (λ (t : List ℕ). take (length w) (drop (length pre + 1) t)) behind_is
      ∙ ap (take (length w)) (drop_at (pre ++ (length w ∷ [])) (w ++ rest) (length pre + 1) (length-append pre (length w ∷ [])))
      ∙ take-append-le (length w) w rest (omega arith) ∙ take_all (length w) w (omega arith)

  fits : (xs ys : List Text) → Valid (xs ++ (w ∷ ys)) → total xs + length w ≤ 4096
  unfolding total
  fits xs ys v = let e : total (xs ++ (w ∷ ys)) ≡ total xs + (length w + total ys) = total-append xs (w ∷ ys) in omega (arith, v.small)

  -- a word that may stand behind others has no fault
  none_there : (xs ys : List Text) → Valid (xs ++ (w ∷ ys)) → refusal_at xs (total xs) (length pre) behind ≡ None
  unfolding refusal_at
  none_there xs ys v =
      let n = length-append xs (w ∷ ys) in
      let g : get_or (xs ++ (w ∷ ys)) (length xs) [] ≡ w = get_or_at xs w ys [] (length xs) refl in
      let l : length xs < length (xs ++ (w ∷ ys)) = omega arith in
      let a : 0 < length w = subst (λ (t : Text). 0 < length t) g (v.some (length xs) l) in
      let b : length w ≤ 64 = subst (λ (t : Text). length t ≤ 64) g (v.short (length xs) l) in
      let t : total xs + length w ≤ 4096 = fits xs ys v in
      let m : member (word (length pre) behind) xs ≡ false = ap (λ t. member t xs) word_there ∙ distinct-not-before xs ys w v.apart in
      let s = size_there in
      let f = v.few in
      let k = long_there in
      grind (arith, nat_tests)

  back_step : (n : ℕ) (xs ys : List Text) → Valid (xs ++ (w ∷ ys)) →
      read_words (suc n) xs (total xs) (length pre) behind ≡ read_words n (xs ++ (w ∷ [])) (total (xs ++ (w ∷ []))) (length (pre ++ (length w ∷ w))) behind
  unfolding read_words
  back_step n xs ys v =
      let at : length pre + 1 + length w ≡ length (pre ++ (length w ∷ w)) = simp length-append (omega arith) in
      ap (λ o. fault_or o (length pre) (read_words n (xs ++ (word (length pre) behind ∷ [])) (total xs + get_or behind (length pre) 0) (length pre + 1 + get_or behind (length pre) 0) behind)) (none_there xs ys v)
      ∙ ap (λ t. read_words n (xs ++ (t ∷ [])) (total xs + get_or behind (length pre) 0) (length pre + 1 + get_or behind (length pre) 0) behind) word_there
      ∙ ap (λ k. read_words n (xs ++ (w ∷ [])) (total xs + k) (length pre + 1 + k) behind) size_there
      ∙ ap (λ k. read_words n (xs ++ (w ∷ [])) k (length pre + 1 + length w) behind) (sym (total_push xs w))
      ∙ ap (λ k. read_words n (xs ++ (w ∷ [])) (total (xs ++ (w ∷ []))) k behind) at

back : (ys xs : List Text) (pre rest : List ℕ) → Valid (xs ++ ys) →
    read_words (length ys) xs (total xs) (length pre) (pre ++ (written_words ys ++ rest)) ≡ Ok (record { words = xs ++ ys; taken = length (pre ++ written_words ys) })
unfolding written_words read_words
back [] xs pre rest v = ap (λ (ws : List Text). Ok (record { words = ws; taken = length pre })) (sym (append-nil xs)) ∙ ap (λ (t : List ℕ). Ok (record { words = xs ++ []; taken = length t })) (sym (append-nil pre))
back (w ∷ ys) xs pre rest v =
    let e : pre ++ ((length w ∷ (w ++ written_words ys)) ++ rest) ≡ behind pre w (written_words ys ++ rest) = ap (λ t. pre ++ (length w ∷ t)) (append_assoc w (written_words ys) rest) in
    let f : behind pre w (written_words ys ++ rest) ≡ (pre ++ (length w ∷ w)) ++ (written_words ys ++ rest) = sym (append_assoc pre (length w ∷ w) (written_words ys ++ rest)) in
    let g : (xs ++ (w ∷ [])) ++ ys ≡ xs ++ (w ∷ ys) = append_assoc xs (w ∷ []) ys in
    let h : (pre ++ (length w ∷ w)) ++ written_words ys ≡ pre ++ (length w ∷ (w ++ written_words ys)) = append_assoc pre (length w ∷ w) (written_words ys) in
    ap (read_words (length (w ∷ ys)) xs (total xs) (length pre)) e ∙ back_step pre w (written_words ys ++ rest) (length ys) xs ys v
    ∙ ap (read_words (length ys) (xs ++ (w ∷ [])) (total (xs ++ (w ∷ []))) (length (pre ++ (length w ∷ w)))) f
    ∙ back ys (xs ++ (w ∷ [])) (pre ++ (length w ∷ w)) rest (subst Valid (sym g) v)
    ∙ ap (λ (ws : List Text). Ok (record { words = ws; taken = length ((pre ++ (length w ∷ w)) ++ written_words ys) })) g
    ∙ ap (λ (t : List ℕ). Ok (record { words = xs ++ (w ∷ ys); taken = length t })) h

pub reads_back : ReadsBack
unfolding total
reads_back ws rest v = let l : 0 < length (written ws ++ rest) = omega arith in cond-true (ltb 0 (length (written ws ++ rest))) _ _ (lt-ltb 0 (length (written ws ++ rest)) l) ∙ back ws [] (length ws ∷ []) rest v
