-- A word is put into the table, byte by byte.
-- Assumes nothing.
use Rattle.std.proofs.Common.{◌≡◌, ℕ, zero, suc, ◌+◌, ◌*◌, ◌<◌, ◌≤◌, true, false, ◌||◌, List, [], ◌∷◌, ◌++◌, length, get_or, take, drop, set, replicate, Some, None, vec_items, Option, Vec, sym, refl, ap, ◌∙◌, inl, inr, append_assoc, add-one, arith}
use Rattle.std.proofs.lemmas.Bool.{or_parts, or_right, or_left, or_from, cond-true, cond-false, cases_Bool, cases_eq, cases_lt, cond_both}
use Rattle.std.proofs.lemmas.List.{append-nil, length-map, get_or-map, take_more, take_all, length-replicate, get_or-replicate, get_or_past, get_or-set_same, get_or-set_other, length-set, length_push, length-append, take-append-drop}
use Rattle.std.specs.declared.alloc.Global.{Global}
use Rattle.std.specs.Option.{option_or}
use Rattle.automaton.specs.Words.{words_of}
use Rattle.automaton.specs.Lists.{total}
use Rattle.automaton.specs.Text.{Text, begins_some, same, member}
use Rattle.automaton.specs.States.{place, inits, inits_of, add, add_all, states}
use Rattle.automaton.specs.Trie.{reached, grown_rows, grown_tells, word_at, place_or0, onward, Trie, TrieOf}
use Rattle.automaton.proofs.States.{or-false, same_refl, place_in, get_or-place, member-get_or, member-append, place-append_left, place_push, member-add, member-add_all, member-states, not-member, length-add}
use Rattle.automaton.proofs.Grow.{place-not_root, place_or0_known, Rooted, rooted_add, rooted_states, same_false, step_by}

pub add_all-append : (xs ps qs : List Text) → add_all xs (ps ++ qs) ≡ add_all (add_all xs ps) qs
unfolding add_all
add_all-append xs [] qs = refl
add_all-append xs (p ∷ ps) qs = add_all-append (add xs p) ps qs

pub inits_of-append : (vs ws : List Text) → inits_of (vs ++ ws) ≡ inits_of vs ++ inits_of ws
unfolding inits_of
inits_of-append [] ws = refl
inits_of-append (v ∷ vs) ws = ap (λ l. inits v ++ l) (inits_of-append vs ws) ∙ sym (append_assoc (inits v) (inits_of vs) (inits_of ws))

pub length-inits : (w : Text) → length (inits w) ≡ length w
unfolding inits
length-inits [] = refl
length-inits (b ∷ bs) = ap suc (length-map (inits bs) (λ t. b ∷ t) ∙ length-inits bs)

pub get_or-inits : (w : Text) (j : ℕ) → j < length w → get_or (inits w) j [] ≡ take (suc j) w
unfolding inits
get_or-inits [] j l = absurd (omega arith)
get_or-inits (b ∷ bs) zero l = refl
get_or-inits (b ∷ bs) (suc j) l =
    get_or-map (λ t. b ∷ t) (inits bs) j [] [] (omega (arith, length-inits bs)) ∙ ap (λ t. b ∷ t) (get_or-inits bs j (omega arith))

-- the texts seen after the words ws and j bytes of the word w
unfoldable pub sofar : List Text → Text → ℕ → List Text
sofar ws w j = add_all (states ws) (take j (inits w))

pub sofar_none : (ws : List Text) (w : Text) → sofar ws w 0 ≡ states ws
unfolding sofar add_all
sofar_none ws w = refl

pub sofar_more : (ws : List Text) (w : Text) (j : ℕ) → j < length w → sofar ws w (j + 1) ≡ add (sofar ws w j) (take j w ++ (get_or w j 0 ∷ []))
unfolding sofar add_all
sofar_more ws w j l =
    ap (add_all (states ws)) (take_more (inits w) j [] (omega (arith, length-inits w)))
    ∙ add_all-append (states ws) (take j (inits w)) (get_or (inits w) j [] ∷ [])
    ∙ ap (add (add_all (states ws) (take j (inits w)))) (get_or-inits w j l ∙ ap (λ n. take n w) (sym (add-one j)) ∙ take_more w j 0 l)

pub sofar_all : (ws : List Text) (w : Text) → sofar ws w (length w) ≡ states (ws ++ (w ∷ []))
unfolding sofar states inits_of
sofar_all ws w =
    ap (add_all (add_all ([] ∷ []) (inits_of ws))) (take_all (length w) (inits w) (omega (arith, length-inits w)))
    ∙ sym (ap (add_all ([] ∷ [])) (inits_of-append ws (w ∷ []) ∙ ap (λ l. inits_of ws ++ l) (append-nil (inits w)))
    ∙ add_all-append ([] ∷ []) (inits_of ws) (inits w))

-- a text that was not seen is no word yet
sofar_new : (ws : List Text) (w : Text) (j : ℕ) (q : Text) → member q (sofar ws w j) ≡ false → member q ws ≡ false
unfolding sofar
sofar_new ws w j q e =
    not-member ws q
    (or_parts (same q []) (begins_some ws q)
    (sym (member-states ws q) ∙ (or_parts (member q (states ws)) (member q (take j (inits w))) (sym (member-add_all q (take j (inits w)) (states ws)) ∙ e)).0)).1

-- after j bytes of the word w the table holds their beginnings, and s is the state of the last
pub record Putting (ws : List Text) (w : Text) (j s : ℕ) (rows : List ℕ) (tells : List (Option ℕ)) : Type 0 where
  pub rooted : Rooted (sofar ws w j)
  pub trie : Trie (sofar ws w j) ws rows tells
  pub within : s < length (sofar ws w j)
  pub here : get_or (sofar ws w j) s [] ≡ take j w

pub putting_none : (ws : List Text) (w : Text) (rows : List ℕ) (tells : List (Option ℕ)) → TrieOf ws rows tells → Putting ws w 0 0 rows tells
putting_none ws w rows tells h =
    let e = sofar_none ws w in
    record {
      rooted = rw e (rooted_states ws);
      trie = rw e h;
      within = rw e (rooted_states ws).some;
      here = rw e (rooted_states ws).root;
    }

no_row : (i : ℕ) → get_or {A = ℕ} (replicate 256 0) i 0 ≡ 0
no_row i =
    elim (cases_lt i 256) [ inl l ↦ get_or-replicate 256 i 0 0 l | inr l ↦ get_or_past (replicate 256 0) i 0 (omega (arith, length-replicate {A = ℕ} 256 0)) ]

pub putting_more : (ws : List Text) (w : Text) (j s : ℕ) (rows : List ℕ) (tells : List (Option ℕ)) → Putting ws w j s rows tells → j < length w → get_or w j 0 < 256 →
    (n : ℕ) → n ≡ length tells →
    (c : ℕ) → c ≡ reached rows n (s * 256 + get_or w j 0) →
    (rows' : List ℕ) → rows' ≡ grown_rows rows n (s * 256 + get_or w j 0) →
    (tells' : List (Option ℕ)) → tells' ≡ grown_tells rows (s * 256 + get_or w j 0) tells →
    Putting ws w (j + 1) c rows' tells'
putting_more ws w j s rows tells p l lb n en c ec rows' er tells' et =
    record {
      rooted = rw next (rooted_add seen (get_or seen s []) b p.rooted (member-get_or seen s p.within));
      trie = rw next res.0;
      within = rw (next, res.1) (place_in q (add seen q) here);
      here = rw (next, res.1) (get_or-place q (add seen q) here ∙ ap (λ t. t ++ (b ∷ [])) p.here ∙ sym (take_more w j 0 l));
    }
  where
    seen : List Text
    seen = sofar ws w j

    b : ℕ
    b = get_or w j 0

    q : Text
    q = onward seen s b

    next : sofar ws w (j + 1) ≡ add seen q
    next = sofar_more ws w j l ∙ ap (λ t. add seen (t ++ (b ∷ []))) (sym p.here)

    here : member q (add seen q) ≡ true
    here = member-add q seen q ∙ or_right (member q seen) (same q q) (same_refl q)

    res : Trie (add seen q) ws rows' tells' × (c ≡ place q (add seen q))
    res =
        step_by seen ws rows (replicate 256 0) tells p.rooted p.trie (length-replicate {A = ℕ} 256 0) no_row s b p.within lb (sofar_new ws w j q)
        c (ec ∙ ap (λ m. reached rows m (s * 256 + b)) en) rows' (er ∙ ap (λ m. grown_rows rows m (s * 256 + b)) en) tells' et

word_at_known : (ws : List Text) (t : Text) → member t ws ≡ true → word_at ws t ≡ Some (place t ws)
unfolding word_at
word_at_known ws t e = cond-true (member t ws) (Some (place t ws)) None e

word_at-none : (ws : List Text) (t : Text) → member t ws ≡ false → word_at ws t ≡ None
unfolding word_at
word_at-none ws t e = cond-false (member t ws) (Some (place t ws)) None e

member_push : (ws : List Text) (w t : Text) → member t (ws ++ (w ∷ [])) ≡ (member t ws || same t w)
unfolding member
member_push ws w t = member-append t ws (w ∷ []) ∙ ap (λ v. member t ws || v) (or-false (same t w))

word_at_push : (ws : List Text) (w : Text) → word_at (ws ++ (w ∷ [])) w ≡ option_or (word_at ws w) (Some (length ws))
word_at_push ws w =
    word_at_known (ws ++ (w ∷ [])) w (member_push ws w w ∙ or_right (member w ws) (same w w) (same_refl w))
    ∙ elim (cases_Bool (member w ws)) [
      | inl e ↦ rw (word_at_known ws w e) (ap Some (place-append_left w ws (w ∷ []) e))
      | inr e ↦ rw (word_at-none ws w e) (ap Some (place_push w ws e))
    ]

word_at_other : (ws : List Text) (w t : Text) → same t w ≡ false → word_at (ws ++ (w ∷ [])) t ≡ word_at ws t
word_at_other ws w t d =
    elim (cases_Bool (member t ws)) [
      | inl e ↦ word_at_known (ws ++ (w ∷ [])) t (member_push ws w t ∙ or_left (member t ws) (same t w) e)
          ∙ ap Some (place-append_left t ws (w ∷ []) e) ∙ sym (word_at_known ws t e)
      | inr e ↦ word_at-none (ws ++ (w ∷ [])) t (member_push ws w t ∙ or_from (member t ws) (same t w) e d) ∙ sym (word_at-none ws t e)
    ]

-- the word's number is written down where it ends, unless one stands there
ended : (seen ws : List Text) (w : Text) (s : ℕ) (rows : List ℕ) (tells : List (Option ℕ)) → Rooted seen → Trie seen ws rows tells → s < length seen → get_or seen s [] ≡ w →
    Trie seen (ws ++ (w ∷ [])) rows (set tells s (option_or (get_or tells s None) (Some (length ws))))
ended seen ws w s rows tells r h l here =
    record {
      rows_len = h.rows_len;
      tells_len = length-set tells s (option_or (get_or tells s None) (Some (length ws))) ∙ h.tells_len;
      goes = h.goes;
      ends = λ u lu. elim (cases_eq u s) [
        | inl e ↦ rw e
            (get_or-set_same tells s (option_or (get_or tells s None) (Some (length ws))) None (omega (arith, h.tells_len))
            ∙ ap (λ o. option_or o (Some (length ws))) (h.ends s l ∙ ap (word_at ws) here) ∙ sym (ap (word_at (ws ++ (w ∷ []))) here ∙ word_at_push ws w))
        | inr e ↦
            get_or-set_other tells s u (option_or (get_or tells s None) (Some (length ws))) None e ∙ h.ends u lu
            ∙ sym (word_at_other ws w (get_or seen u [])
            (same_false (get_or seen u []) w (λ g. e (sym (r.apart u lu) ∙ ap (λ t. place t seen) (g ∙ sym here) ∙ r.apart s l))))
      ];
    }

-- at the end of a word its number is written down, unless one stands there
pub putting_all : (ws : List Text) (w : Text) (j s : ℕ) (rows : List ℕ) (tells : List (Option ℕ)) → Putting ws w j s rows tells → j ≡ length w →
    (tells' : List (Option ℕ)) (n : ℕ) → length ws ≡ n → tells' ≡ set tells s (option_or (get_or tells s None) (Some n)) → TrieOf (ws ++ (w ∷ [])) rows tells'
putting_all ws w j s rows tells q ej tells' n en et =
    let p : Putting ws w (length w) s rows tells = rw ej at q in
    rw (et, ← en, ← sofar_all ws w)
    (ended (sofar ws w (length w)) ws w s rows tells p.rooted p.trie p.within (p.here ∙ take_all (length w) w (omega arith)))

pub word_at_lem : (vs : List (Vec ℕ Global)) (i : ℕ) (v : Vec ℕ Global) → i < length vs → v ≡ get_or vs i v → get_or (words_of vs) i [] ≡ vec_items v
word_at_lem vs i v l e = get_or-map vec_items vs i v [] l ∙ ap vec_items (sym e)

-- the words up to one, and that one
pub words_more : (vs : List (Vec ℕ Global)) (i : ℕ) (v : Vec ℕ Global) (w : Text) → i < length vs → v ≡ get_or vs i v → w ≡ vec_items v →
    take (i + 1) (words_of vs) ≡ take i (words_of vs) ++ (w ∷ [])
words_more vs i v w l e ew =
    take_more (words_of vs) i [] (omega (arith, length-map vs vec_items))
    ∙ ap (λ t. take i (words_of vs) ++ (t ∷ [])) (word_at_lem vs i v l e ∙ sym ew)

-- a table with the empty beginning alone
pub trie_none : (rows : List ℕ) → rows ≡ replicate 256 0 → (tells : List (Option ℕ)) → tells ≡ None ∷ [] → TrieOf [] rows tells
unfolding states add_all inits_of word_at place_or0 member same
trie_none rows er tells et =
    rw (er, et) (record {
      rows_len = length-replicate {A = ℕ} 256 0;
      tells_len = refl;
      goes = λ s b l _. let e : s ≡ 0 = omega arith in rw e (no_row (0 * 256 + b));
      ends = λ s l. let e : s ≡ 0 = omega arith in rw e;
    })

-- a word for which one state more is wanted where there are m already has more than m states with it
pub length-add_all : (ps xs : List Text) → length xs ≤ length (add_all xs ps)
unfolding add_all
length-add_all [] xs = omega arith
length-add_all (p ∷ ps) xs = let h = length-add_all ps (add xs p) in let g = length-add xs p in omega arith

length-add_new : (xs : List Text) (p : Text) → member p xs ≡ false → length (add xs p) ≡ length xs + 1
unfolding add
length-add_new xs p e = ap length (cond-false (member p xs) xs (xs ++ (p ∷ [])) e) ∙ length_push xs p

sofar_rest : (ws : List Text) (w : Text) (j : ℕ) → length (sofar ws w j) ≤ length (states (ws ++ (w ∷ [])))
unfolding sofar
sofar_rest ws w j =
    let e : add_all (add_all (states ws) (take j (inits w))) (drop j (inits w)) ≡ states (ws ++ (w ∷ [])) =
    sym (add_all-append (states ws) (take j (inits w)) (drop j (inits w))) ∙ ap (add_all (states ws)) (take-append-drop j (inits w))
    ∙ ap (add_all (states ws)) (sym (take_all (length w) (inits w) (omega (arith, length-inits w)))) ∙ sofar_all ws w in
    omega (arith, length-add_all (drop j (inits w)) (add_all (states ws) (take j (inits w))), ap length e)

pub put_full : (ws : List Text) (w : Text) (j s : ℕ) (rows : List ℕ) (tells : List (Option ℕ)) (m : ℕ) → Putting ws w j s rows tells → j < length w → get_or w j 0 < 256 →
    m ≤ length tells → get_or rows (s * 256 + get_or w j 0) 0 ≡ 0 → m < length (states (ws ++ (w ∷ [])))
put_full ws w j s rows tells m p lj lb lm z =
    omega (arith, sofar_rest ws w (j + 1), ap length (sofar_more ws w j lj), length-add_new seen (take j w ++ (get_or w j 0 ∷ [])) none, p.trie.tells_len)
  where
    seen : List Text
    seen = sofar ws w j

    none : member (take j w ++ (get_or w j 0 ∷ [])) seen ≡ false
    none = elim (cases_Bool (member (take j w ++ (get_or w j 0 ∷ [])) seen)) [
      | inl g ↦
          let q : onward seen s (get_or w j 0) ≡ take j w ++ (get_or w j 0 ∷ []) = ap (λ t. t ++ (get_or w j 0 ∷ [])) p.here in
          let mq : member (onward seen s (get_or w j 0)) seen ≡ true = ap (λ t. member t seen) q ∙ g in
          absurd (place-not_root seen p.rooted (get_or seen s []) (get_or w j 0) mq
          (sym (place_or0_known seen (onward seen s (get_or w j 0)) mq) ∙ sym (p.trie.goes s (get_or w j 0) p.within lb) ∙ z))
      | inr g ↦ g
    ]

-- some of the words have no more states than all of them
pub states-take : (ws : List Text) (i : ℕ) → length (states (take i ws)) ≤ length (states ws)
unfolding states
states-take ws i =
    let e : add_all (states (take i ws)) (inits_of (drop i ws)) ≡ states ws =
    sym (add_all-append _ (inits_of (take i ws)) (inits_of (drop i ws))) ∙ ap (add_all _) (sym (inits_of-append (take i ws) (drop i ws)) ∙ ap inits_of (take-append-drop i ws)) in
    omega (arith, length-add_all (inits_of (drop i ws)) (states (take i ws)), ap length e)

-- there is a state for each byte of the words at most, and the empty one
length-inits_of : (ws : List Text) → length (inits_of ws) ≡ total ws
unfolding inits_of total
length-inits_of [] = refl
length-inits_of (w ∷ ws) = length-append (inits w) (inits_of ws) ∙ (let e = length-inits_of ws in let l = length-inits w in omega arith)

add_most : (xs : List Text) (p : Text) → length (add xs p) ≤ length xs + 1
unfolding add
add_most xs p = cond_both (member p xs) xs (xs ++ (p ∷ [])) (λ (l : List Text). length l ≤ length xs + 1) (λ e. omega arith) (λ e. omega (arith, length_push xs p))

add_all_most : (ps xs : List Text) → length (add_all xs ps) ≤ length xs + length ps
unfolding add_all
add_all_most [] xs = omega arith
add_all_most (p ∷ ps) xs = let h = add_all_most ps (add xs p) in let g = add_most xs p in omega arith

pub states_most : (ws : List Text) → length (states ws) ≤ total ws + 1
unfolding states
states_most ws = let h = add_all_most (inits_of ws) ([] ∷ []) in omega (arith, length-inits_of ws)
