-- The table of all transitions from that of the words' beginnings: the rows of the shorter texts first.
-- Assumes nothing.
use Rattle.std.proofs.Common.{◌≡◌, ℕ, zero, suc, ◌+◌, ◌*◌, ◌/◌, ◌%◌, ◌<◌, ◌≤◌, true, false, cond, eqb, ◌≢◌, ◌⊎◌, List, [], ◌∷◌, ◌++◌, length, get_or, take, drop, set, Some, None, Option, sym, refl, ap, ◌∙◌, subst, inl, inr, arith}
use Rattle.std.proofs.lemmas.Bool.{false≢true, or_parts, or_from, or_cases, or_left, or_right, and_parts, and_from, cond_both, cond-true, cond-false, eqb-true, eq-eqb, ne_eqb, cases_lt, cases_Bool, cases_eq, both_ways}
use Rattle.std.proofs.lemmas.List.{length-append, length-drop, length-take-le, take_more, take_all, nil_from_length, get_or-set_same, get_or-set_other, length-set}
use Rattle.std.specs.Option.{option_or}
use Rattle.automaton.specs.Text.{Text, begins, begins_some, tail, same, member}
use Rattle.automaton.specs.States.{place, inits, inits_of, add, add_all, run, states, text_of, state_of, goto, last_index, tells_of}
use Rattle.automaton.specs.Trie.{word_at, place_or0, onward, TrieOf}
use Rattle.automaton.specs.Link.{Closed, fallback, Linked, fail_of, Done, Through, Linking, Walked, Right}
use Rattle.automaton.specs.Promise.{StatesAre, GoesToLongest, Examples}
use Rattle.automaton.proofs.States.{same_true, place_in, member-get_or, member-states, some-states, text_start, state_text, state_start, text_tail, state_tail_in, goto-tail, last_tail, get_or-place}
use Rattle.automaton.proofs.Grow.{rooted_states, place-not_root, place_or0_known, place_or0-none, push_not_nil, same_false}

-- texts that begin words
pub begins-take : (k : ℕ) (w : Text) → begins (take k w) w ≡ true
unfolding begins
begins-take zero w = refl
begins-take (suc k) [] = refl
begins-take (suc k) (x ∷ xs) = and_from (eqb x x) (begins (take k xs) xs) (eq-eqb x x refl) (begins-take k xs)

pub take_begins : (t w : Text) → begins t w ≡ true → t ≡ take (length t) w
unfolding begins
take_begins [] w e = refl
take_begins (x ∷ xs) [] e = absurd (false≢true e)
take_begins (x ∷ xs) (y ∷ ys) e =
    let p = and_parts (eqb x y) (begins xs ys) e in
    let h = eqb-true x y p.0 in
    let r = take_begins xs ys p.1 in
    cc

pub begins_some-get_or : (ws : List Text) (i : ℕ) (t : Text) → i < length ws → begins t (get_or ws i []) ≡ true → begins_some ws t ≡ true
unfolding begins_some
begins_some-get_or [] i t l e = absurd (omega arith)
begins_some-get_or (w ∷ ws) zero t l e = or_left (begins t w) (begins_some ws t) e
begins_some-get_or (w ∷ ws) (suc i) t l e = or_right (begins t w) (begins_some ws t) (begins_some-get_or ws i t (omega arith) e)

pub begins_some_push : (ws : List Text) (w t : Text) → begins_some (ws ++ (w ∷ [])) t ≡ true → (begins_some ws t ≡ true) ⊎ (begins t w ≡ true)
unfolding begins_some
begins_some_push [] w t e = elim (or_cases (begins t w) false e) [ inl h ↦ inr h | inr h ↦ absurd (false≢true h) ]
begins_some_push (v ∷ ws) w t e =
    elim (or_cases (begins t v) (begins_some (ws ++ (w ∷ [])) t) e) [
      | inl h ↦ inl (or_left (begins t v) (begins_some ws t) h)
      | inr h ↦ elim (begins_some_push ws w t h) [ inl g ↦ inl (or_right (begins t v) (begins_some ws t) g) | inr g ↦ inr g ]
    ]

pub member-begins : (ws : List Text) (t : Text) → begins_some ws t ≡ true → member t (states ws) ≡ true
member-begins ws t e = member-states ws t ∙ or_right (same t []) (begins_some ws t) e

-- the state of a text that is one
pub text_state : (ws : List Text) (t : Text) → member t (states ws) ≡ true → text_of ws (state_of ws t) ≡ t
unfolding text_of state_of
text_state ws t e = get_or-place t (states ws) e

pub state_in : (ws : List Text) (t : Text) → member t (states ws) ≡ true → state_of ws t < length (states ws)
unfolding state_of
state_in ws t e = place_in t (states ws) e

pub same_state : (ws : List Text) (s u : ℕ) → s < length (states ws) → u < length (states ws) → text_of ws s ≡ text_of ws u → s ≡ u
same_state ws s u l k e = sym (state_text ws s l) ∙ ap (state_of ws) e ∙ state_text ws u k

-- the remembered end of a text
pub tail_itself : (ws : List Text) (t : Text) → begins_some ws t ≡ true → tail ws t ≡ t
unfolding tail
tail_itself ws [] e = refl
tail_itself ws (y ∷ ys) e = cond-true (begins_some ws (y ∷ ys)) (y ∷ ys) (tail ws ys) e

pub tail_shorter : (ws : List Text) (y : ℕ) (ys : Text) → begins_some ws (y ∷ ys) ≡ false → tail ws (y ∷ ys) ≡ tail ws ys
unfolding tail
tail_shorter ws y ys e = cond-false (begins_some ws (y ∷ ys)) (y ∷ ys) (tail ws ys) e

pub length-tail : (ws : List Text) (t : Text) → length (tail ws t) ≤ length t
unfolding tail
length-tail ws [] = omega arith
length-tail ws (y ∷ ys) =
    let r = length-tail ws ys in
    cond_both (begins_some ws (y ∷ ys)) (y ∷ ys) (tail ws ys) (λ t. length t ≤ suc (length ys)) (λ e. omega arith) (λ e. omega arith)

-- a member that is not the empty text begins a word
begins-member : (ws : List Text) (t : Text) (b : ℕ) → member (t ++ (b ∷ [])) (states ws) ≡ true → begins_some ws (t ++ (b ∷ [])) ≡ true
begins-member ws t b e =
    elim (or_cases (same (t ++ (b ∷ [])) []) (begins_some ws (t ++ (b ∷ []))) (sym (member-states ws (t ++ (b ∷ []))) ∙ e)) [
      | inl h ↦ absurd (push_not_nil t b (same_true (t ++ (b ∷ [])) [] h))
      | inr h ↦ h
    ]

none-begins : (ws : List Text) (t : Text) → member t (states ws) ≡ false → begins_some ws t ≡ false
none-begins ws t e = (or_parts (same t []) (begins_some ws t) (sym (member-states ws t) ∙ e)).1

fail_is : (ws : List Text) (s y : ℕ) (ys : Text) → text_of ws s ≡ y ∷ ys → fail_of ws s ≡ state_of ws (tail ws ys)
unfolding fail_of
fail_is ws s y ys e = ap (λ t. state_of ws (tail ws (drop 1 t))) e

-- where a state goes: to its child, or to where the state goes to which it falls back
pub goto_known : (ws : List Text) (s b : ℕ) → member (onward (states ws) s b) (states ws) ≡ true → goto ws s b ≡ place_or0 (states ws) (onward (states ws) s b)
unfolding goto text_of state_of
goto_known ws s b e =
    ap (λ t. place t (states ws)) (tail_itself ws (onward (states ws) s b) (begins-member ws (get_or (states ws) s []) b e))
    ∙ sym (place_or0_known (states ws) (onward (states ws) s b) e)

pub goto-none : (ws : List Text) (s b y : ℕ) (ys : Text) → text_of ws s ≡ y ∷ ys → member (onward (states ws) s b) (states ws) ≡ false →
    goto ws s b ≡ goto ws (fail_of ws s) b
unfolding goto text_of
goto-none ws s b y ys e n =
    let h : goto ws s b ≡ state_of ws (tail ws (ys ++ (b ∷ []))) =
    rw e (ap (state_of ws) (tail_shorter ws y (ys ++ (b ∷ [])) (none-begins ws (y ∷ ys ++ (b ∷ [])) (rw e at n)))) in
    h ∙ sym (goto-tail ws ys b) ∙ ap (λ f. goto ws f b) (sym (fail_is ws s y ys e))

pub goto_root : (ws : List Text) (s b : ℕ) → text_of ws s ≡ [] → goto ws s b ≡ place_or0 (states ws) (onward (states ws) s b)
unfolding goto text_of tail
goto_root ws s b e =
    elim (cases_Bool (member (onward (states ws) s b) (states ws))) [
      | inl m ↦ goto_known ws s b m
      | inr m ↦
          rw e (ap (state_of ws) (tail_shorter ws b [] (none-begins ws (b ∷ []) (rw e at m))) ∙ state_start ws)
          ∙ sym (place_or0-none (states ws) (onward (states ws) s b) m)
    ]

-- the entry of a row that takes over, whether it had the child alone or all
pub goto_over : (ws : List Text) (s b y x : ℕ) (ys : Text) → text_of ws s ≡ y ∷ ys → (x ≡ goto ws s b) ⊎ (x ≡ place_or0 (states ws) (onward (states ws) s b)) →
    cond (eqb x 0) (goto ws (fail_of ws s) b) x ≡ goto ws s b
goto_over ws s b y x ys e h =
    elim (cases_Bool (member (onward (states ws) s b) (states ws))) [
      | inl m ↦
          let p = place_or0_known (states ws) (onward (states ws) s b) m in
          let g = goto_known ws s b m in
          let i : x ≡ goto ws s b = elim h [ inl i ↦ i | inr i ↦ i ∙ sym g ] in
          cond-false (eqb x 0) (goto ws (fail_of ws s) b) x
          (ne_eqb x 0 (λ z. place-not_root (states ws) (rooted_states ws) (get_or (states ws) s []) b m (sym (i ∙ g ∙ p) ∙ z))) ∙ i
      | inr m ↦
          let g = goto-none ws s b y ys e m in
          elim h [
            | inl i ↦ cond_both (eqb x 0) (goto ws (fail_of ws s) b) x (λ v. v ≡ goto ws s b) (λ _. sym g) (λ _. i)
            | inr i ↦ cond-true (eqb x 0) (goto ws (fail_of ws s) b) x (eq-eqb x 0 (i ∙ place_or0-none (states ws) (onward (states ws) s b) m)) ∙ sym g
          ]
    ]

-- where a state's child falls back to
pub fail_child : (ws : List Text) (s c b y : ℕ) (ys : Text) → text_of ws s ≡ y ∷ ys → text_of ws c ≡ text_of ws s ++ (b ∷ []) → fail_of ws c ≡ goto ws (fail_of ws s) b
fail_child ws s c b y ys e ec =
    fail_is ws c y (ys ++ (b ∷ [])) (ec ∙ ap (λ t. t ++ (b ∷ [])) e) ∙ sym (goto-tail ws ys b) ∙ ap (λ f. goto ws f b) (sym (fail_is ws s y ys e))

pub fail_child_root : (ws : List Text) (s c b : ℕ) → text_of ws s ≡ [] → text_of ws c ≡ text_of ws s ++ (b ∷ []) → fail_of ws c ≡ 0
unfolding fail_of tail
fail_child_root ws s c b e ec = rw (ec, e) (state_start ws)

pub fail_in : (ws : List Text) (s : ℕ) → fail_of ws s < length (states ws)
unfolding fail_of
fail_in ws s = state_tail_in ws (drop 1 (text_of ws s))

pub fail_text : (ws : List Text) (s : ℕ) → text_of ws (fail_of ws s) ≡ tail ws (drop 1 (text_of ws s))
unfolding fail_of
fail_text ws s = text_tail ws (drop 1 (text_of ws s))

pub fail_shorter : (ws : List Text) (s d : ℕ) → length (text_of ws s) ≤ d + 1 → length (text_of ws (fail_of ws s)) ≤ d
fail_shorter ws s d l =
    omega (arith, ap length (fail_text ws s), length-tail ws (drop 1 (text_of ws s)), length-drop 1 (text_of ws s))

-- what a state tells that takes over
last_law : (ws : List Text) (y : ℕ) (ys : Text) → last_index ws (y ∷ ys) ≡ option_or (word_at ws (y ∷ ys)) (last_index ws ys)
unfolding last_index word_at
last_law ws y ys =
    elim (member (y ∷ ys) ws) as (λ v. cond v (Some (place (y ∷ ys) ws)) (last_index ws ys) ≡ option_or (cond v (Some (place (y ∷ ys) ws)) None) (last_index ws ys)) [
      | true ↦ refl
      | false ↦ refl
    ]

or_twice : (a o : Option ℕ) → option_or (option_or a o) o ≡ option_or a o
or_twice None None = refl
or_twice None (Some n) = refl
or_twice (Some m) o = refl

pub tells_over : (ws : List Text) (s y : ℕ) (ys : Text) (x : Option ℕ) → text_of ws s ≡ y ∷ ys → (x ≡ tells_of ws s) ⊎ (x ≡ word_at ws (text_of ws s)) →
    option_or x (tells_of ws (fail_of ws s)) ≡ tells_of ws s
unfolding tells_of
tells_over ws s y ys x e h =
    let f : last_index ws (text_of ws (fail_of ws s)) ≡ last_index ws ys = ap (last_index ws) (fail_text ws s ∙ ap (λ t. tail ws (drop 1 t)) e) ∙ sym (last_tail ws ys) in
    let l : last_index ws (text_of ws s) ≡ option_or (word_at ws (y ∷ ys)) (last_index ws ys) = ap (last_index ws) e ∙ last_law ws y ys in
    elim h [
      | inl i ↦ ap (option_or x) f ∙ ap (λ o. option_or o (last_index ws ys)) (i ∙ l) ∙ or_twice (word_at ws (y ∷ ys)) (last_index ws ys) ∙ sym l
      | inr i ↦ ap (option_or x) f ∙ ap (λ o. option_or o (last_index ws ys)) (i ∙ ap (word_at ws) e) ∙ sym l
    ]

-- the state c is linked, whose text has d + 1 bytes, and all shorter texts are through
module _ (ws : List Text) (d i : ℕ) (rows : List ℕ) (tells : List (Option ℕ)) (fail rows' : List ℕ) (tells' : List (Option ℕ)) (fail' : List ℕ) (c f y : ℕ) (ys : Text)
    (h : Linking ws d i rows tells fail) (lc : c < length (states ws)) (tc : text_of ws c ≡ y ∷ ys) (dc : length (text_of ws c) ≡ d + 1)
    (ef : f ≡ fail_of ws c) (k : Linked rows tells fail rows' tells' fail' c f) where
  row_other : (u b : ℕ) → u ≢ c → b < 256 → get_or rows' (u * 256 + b) 0 ≡ get_or rows (u * 256 + b) 0
  row_other u b n lb =
      elim (cases_lt u c) [
        | inl l ↦ k.fills.before (u * 256 + b) (omega arith)
        | inr l ↦ let g : c < u = omega arith in k.fills.after (u * 256 + b) (omega arith)
      ]

  tells_other : (u : ℕ) → u ≢ c → get_or tells' u None ≡ get_or tells u None
  tells_other u n = rw k.ends (get_or-set_other tells c u (option_or (get_or tells c None) (get_or tells f None)) None n)

  fail_other : (u : ℕ) → u ≢ c → get_or fail' u 0 ≡ get_or fail u 0
  fail_other u n = rw k.fails (get_or-set_other fail c u f 0 n)

  fallen : Done ws rows tells fail f
  fallen = rw ef (h.done (fail_of ws c) (fail_in ws c) (inl (fail_shorter ws c d (omega arith))))

  done_here : Done ws rows' tells' fail' c
  done_here = record {
    row = λ b lb.
        k.fills.over b lb
        ∙ ap (λ v. cond (eqb (get_or rows (c * 256 + b) 0) 0) v (get_or rows (c * 256 + b) 0)) (fallen.row b lb ∙ ap (λ g. goto ws g b) ef)
        ∙ goto_over ws c b y (get_or rows (c * 256 + b) 0) ys tc (h.goes c b lc lb);
    told =
        rw k.ends (get_or-set_same tells c (option_or (get_or tells c None) (get_or tells f None)) None (omega (arith, h.tells_len)))
        ∙ ap (option_or (get_or tells c None)) (fallen.told ∙ ap (tells_of ws) ef) ∙ tells_over ws c y ys (get_or tells c None) tc (h.ends c lc);
    falls = rw k.fails (get_or-set_same fail c f 0 (omega (arith, h.fail_len))) ∙ ef;
  }

  done_other : (u : ℕ) → u ≢ c → Done ws rows tells fail u → Done ws rows' tells' fail' u
  done_other u n g = record {
    row = λ b lb. row_other u b n lb ∙ g.row b lb;
    told = tells_other u n ∙ g.told;
    falls = fail_other u n ∙ g.falls;
  }

  pub linked_more : (j : ℕ) → ((u : ℕ) → u < length (states ws) → Through ws d j (text_of ws u) → (u ≡ c) ⊎ Through ws d i (text_of ws u)) → Linking ws d j rows' tells' fail'
  linked_more j t = record {
    rows_len = k.fills.len ∙ h.rows_len;
    tells_len = ap length k.ends ∙ length-set tells c (option_or (get_or tells c None) (get_or tells f None)) ∙ h.tells_len;
    fail_len = ap length k.fails ∙ length-set fail c f ∙ h.fail_len;
    fail_in = λ u lu. elim (cases_eq u c) [
      | inl e ↦ rw (e, done_here.falls) (fail_in ws c)
      | inr n ↦ rw (fail_other u n) (h.fail_in u lu)
    ];
    goes = λ u b lu lb. elim (cases_eq u c) [
      | inl e ↦ inl (rw e (done_here.row b lb))
      | inr n ↦ rw (row_other u b n lb) (h.goes u b lu lb)
    ];
    ends = λ u lu. elim (cases_eq u c) [
      | inl e ↦ inl (rw e done_here.told)
      | inr n ↦ rw (tells_other u n) (h.ends u lu)
    ];
    done = λ u lu p. elim (cases_eq u c) [
      | inl e ↦ rw e done_here
      | inr n ↦ elim (t u lu p) [ inl e ↦ absurd (n e) | inr q ↦ done_other u n (h.done u lu q) ]
    ];
  }

place_or0_in : (ws : List Text) (t : Text) → place_or0 (states ws) t < length (states ws)
place_or0_in ws t =
    elim (cases_Bool (member t (states ws))) [
      | inl m ↦ rw (place_or0_known (states ws) t m) (place_in t (states ws) m)
      | inr m ↦ rw (place_or0-none (states ws) t m) (some-states ws)
    ]

pub goto_in : (ws : List Text) (s b : ℕ) → goto ws s b < length (states ws)
unfolding goto
goto_in ws s b = state_tail_in ws (text_of ws s ++ (b ∷ []))

-- every entry is a state
pub linking_closed : (ws : List Text) (d i : ℕ) (rows : List ℕ) (tells : List (Option ℕ)) (fail : List ℕ) → Linking ws d i rows tells fail → Closed rows tells fail
linking_closed ws d i rows tells fail h = record {
  rows_len = h.rows_len ∙ ap (λ n. n * 256) (sym h.tells_len);
  fail_len = h.fail_len ∙ sym h.tells_len;
  rows_in = λ k l.
      let e : (k / 256) * 256 + k % 256 ≡ k = omega arith in
      let p : k / 256 < length (states ws) = omega (arith, h.rows_len) in
      let q : k % 256 < 256 = omega arith in
      rw h.tells_len
      (subst (λ m. get_or rows m 0 < length (states ws)) e
      (elim (h.goes (k / 256) (k % 256) p q) [
        | inl g ↦ rw g (goto_in ws (k / 256) (k % 256))
        | inr g ↦ rw g (place_or0_in ws (onward (states ws) (k / 256) (k % 256)))
      ]));
  fail_in = λ k l. rw h.tells_len (h.fail_in k (omega (arith, h.fail_len)));
}

-- a word's beginning of d bytes
module _ (ws : List Text) (i : ℕ) (li : i < length ws) where
  front-begins : (d : ℕ) → begins_some ws (take d (get_or ws i [])) ≡ true
  front-begins d = begins_some-get_or ws i (take d (get_or ws i [])) li (begins-take d (get_or ws i []))

  pub front_in : (d : ℕ) → state_of ws (take d (get_or ws i [])) < length (states ws)
  front_in d = state_in ws (take d (get_or ws i [])) (member-begins ws (take d (get_or ws i [])) (front-begins d))

  pub front_text : (d : ℕ) → text_of ws (state_of ws (take d (get_or ws i []))) ≡ take d (get_or ws i [])
  front_text d = text_state ws (take d (get_or ws i [])) (member-begins ws (take d (get_or ws i [])) (front-begins d))

-- the word at i goes on by its byte at d, from the state s
module _ (ws : List Text) (d i : ℕ) (rows : List ℕ) (tells : List (Option ℕ)) (fail : List ℕ) (h : Linking ws d i rows tells fail)
    (li : i < length ws) (ld : d < length (get_or ws i [])) (lb : get_or (get_or ws i []) d 0 < 256) (s : ℕ) (es : s ≡ state_of ws (take d (get_or ws i []))) where
  here : text_of ws s ≡ take d (get_or ws i [])
  here = ap (text_of ws) es ∙ front_text ws i li d

  pub here_in : s < length (states ws)
  here_in = rw es (front_in ws i li d)

  onward_is : onward (states ws) s (get_or (get_or ws i []) d 0) ≡ take (d + 1) (get_or ws i [])
  unfolding text_of
  onward_is = ap (λ t. t ++ (get_or (get_or ws i []) d 0 ∷ [])) here ∙ sym (take_more (get_or ws i []) d 0 ld)

  next-member : member (onward (states ws) s (get_or (get_or ws i []) d 0)) (states ws) ≡ true
  next-member = rw onward_is (member-begins ws (take (d + 1) (get_or ws i [])) (front-begins ws i li (d + 1)))

  pub next_is : get_or rows (s * 256 + get_or (get_or ws i []) d 0) 0 ≡ state_of ws (take (d + 1) (get_or ws i []))
  unfolding state_of
  next_is =
      let e : place_or0 (states ws) (onward (states ws) s (get_or (get_or ws i []) d 0)) ≡ place (take (d + 1) (get_or ws i [])) (states ws) =
      place_or0_known (states ws) (onward (states ws) s (get_or (get_or ws i []) d 0)) next-member ∙ ap (λ t. place t (states ws)) onward_is in
      elim (h.goes s (get_or (get_or ws i []) d 0) here_in lb) [
        | inl g ↦ g ∙ goto_known ws s (get_or (get_or ws i []) d 0) next-member ∙ e
        | inr g ↦ g ∙ e
      ]

  next_text : text_of ws (state_of ws (take (d + 1) (get_or ws i []))) ≡ text_of ws s ++ (get_or (get_or ws i []) d 0 ∷ [])
  next_text = front_text ws i li (d + 1) ∙ take_more (get_or ws i []) d 0 ld ∙ ap (λ t. t ++ (get_or (get_or ws i []) d 0 ∷ [])) (sym here)

  here_len : length (text_of ws s) ≤ d
  here_len = omega (arith, ap length here, length-take-le d (get_or ws i []) (omega arith))

  fallback_root : s ≡ 0 → fallback rows fail s (get_or (get_or ws i []) d 0) ≡ fail_of ws (state_of ws (take (d + 1) (get_or ws i [])))
  fallback_root z =
      cond-true (eqb s 0) 0 (get_or rows (get_or fail s 0 * 256 + get_or (get_or ws i []) d 0) 0) (eq-eqb s 0 z)
      ∙ sym (fail_child_root ws s (state_of ws (take (d + 1) (get_or ws i []))) (get_or (get_or ws i []) d 0) (ap (text_of ws) z ∙ text_start ws) next_text)

  fallback_on : (t : Text) → text_of ws s ≡ t → (s ≡ 0 → ⊥) → fallback rows fail s (get_or (get_or ws i []) d 0) ≡ fail_of ws (state_of ws (take (d + 1) (get_or ws i [])))
  fallback_on [] e n = absurd (n (same_state ws s 0 here_in (some-states ws) (e ∙ sym (text_start ws))))
  fallback_on (y ∷ ys) e n =
      let g : get_or fail s 0 ≡ fail_of ws s = (h.done s here_in (inl here_len)).falls in
      cond-false (eqb s 0) 0 (get_or rows (get_or fail s 0 * 256 + get_or (get_or ws i []) d 0) 0) (ne_eqb s 0 n)
      ∙ ap (λ m. get_or rows (m * 256 + get_or (get_or ws i []) d 0) 0) g
      ∙ (h.done (fail_of ws s) (fail_in ws s) (inl (fail_shorter ws s d (omega (arith, here_len))))).row (get_or (get_or ws i []) d 0) lb
      ∙ sym (fail_child ws s (state_of ws (take (d + 1) (get_or ws i []))) (get_or (get_or ws i []) d 0) y ys e next_text)

  fallback_is : fallback rows fail s (get_or (get_or ws i []) d 0) ≡ fail_of ws (state_of ws (take (d + 1) (get_or ws i [])))
  fallback_is = elim (cases_eq s 0) [ inl z ↦ fallback_root z | inr n ↦ fallback_on (text_of ws s) refl n ]

  next_len : length (text_of ws (state_of ws (take (d + 1) (get_or ws i [])))) ≡ d + 1
  next_len = ap length (front_text ws i li (d + 1)) ∙ length-take-le (d + 1) (get_or ws i []) (omega arith)

  -- what is through with one word more
  through_more : (u : ℕ) → u < length (states ws) → Through ws d (i + 1) (text_of ws u) → (u ≡ state_of ws (take (d + 1) (get_or ws i []))) ⊎ Through ws d i (text_of ws u)
  through_more u lu (inl l) = inr (inl l)
  through_more u lu (inr p) =
      elim (begins_some_push (take i ws) (get_or ws i []) (text_of ws u) (ap (λ vs. begins_some vs (text_of ws u)) (sym (take_more ws i [] li)) ∙ p.1)) [
        | inl g ↦ inr (inr (p.0, g))
        | inr g ↦
            inl (same_state ws u (state_of ws (take (d + 1) (get_or ws i []))) lu (front_in ws i li (d + 1))
            (take_begins (text_of ws u) (get_or ws i []) g ∙ ap (λ n. take n (get_or ws i [])) p.0 ∙ sym (front_text ws i li (d + 1))))
      ]

  linked_by : (rows' : List ℕ) (tells' : List (Option ℕ)) (fail' : List ℕ) (c f : ℕ) → c ≡ state_of ws (take (d + 1) (get_or ws i [])) →
      f ≡ fail_of ws (state_of ws (take (d + 1) (get_or ws i []))) → Linked rows tells fail rows' tells' fail' c f →
      (t : Text) → text_of ws c ≡ t → Linking ws d (i + 1) rows' tells' fail'
  linked_by rows' tells' fail' c f ec ef k [] e = absurd (omega (arith, ap length e, next_len, ap (λ m. length (text_of ws m)) ec))
  linked_by rows' tells' fail' c f ec ef k (y ∷ ys) e =
      linked_more ws d i rows tells fail rows' tells' fail' c f y ys h (rw ec (front_in ws i li (d + 1))) e (rw ec next_len) (rw ec ef) k (i + 1)
      (λ u lu p. rw ec (through_more u lu p))

  pub link_step : (c : ℕ) → c ≡ get_or rows (s * 256 + get_or (get_or ws i []) d 0) 0 → (rows' : List ℕ) (tells' : List (Option ℕ)) (fail' : List ℕ) →
      Linked rows tells fail rows' tells' fail' c (fallback rows fail s (get_or (get_or ws i []) d 0)) →
      Linking ws d (i + 1) rows' tells' fail' × (c ≡ state_of ws (take (d + 1) (get_or ws i [])))
  link_step c ec rows' tells' fail' k =
      let e : c ≡ state_of ws (take (d + 1) (get_or ws i [])) = ec ∙ next_is in
      (linked_by rows' tells' fail' c (fallback rows fail s (get_or (get_or ws i []) d 0)) e fallback_is k (text_of ws c) refl, e)

-- from one count of what is through to another
linking_as : (ws : List Text) (d i e j : ℕ) (rows : List ℕ) (tells : List (Option ℕ)) (fail : List ℕ) →
    ((u : ℕ) → u < length (states ws) → Through ws e j (text_of ws u) → Through ws d i (text_of ws u)) → Linking ws d i rows tells fail → Linking ws e j rows tells fail
linking_as ws d i e j rows tells fail t h = record {
  rows_len = h.rows_len;
  tells_len = h.tells_len;
  fail_len = h.fail_len;
  fail_in = h.fail_in;
  goes = h.goes;
  ends = h.ends;
  done = λ u lu p. h.done u lu (t u lu p);
}

begins-length : (t w : Text) → begins t w ≡ true → length t ≤ length w
unfolding begins
begins-length [] w e = omega arith
begins-length (x ∷ xs) [] e = absurd (false≢true e)
begins-length (x ∷ xs) (y ∷ ys) e = let r = begins-length xs ys (and_parts (eqb x y) (begins xs ys) e).1 in omega arith

-- a word that has come to its end changes nothing
pub link_skip : (ws : List Text) (d i : ℕ) (rows : List ℕ) (tells : List (Option ℕ)) (fail : List ℕ) → Linking ws d i rows tells fail → i < length ws → length (get_or ws i []) ≤ d →
    Linking ws d (i + 1) rows tells fail
link_skip ws d i rows tells fail h li l = linking_as ws d i d (i + 1) rows tells fail through h
  where
    through : (u : ℕ) → u < length (states ws) → Through ws d (i + 1) (text_of ws u) → Through ws d i (text_of ws u)
    through u lu (inl k) = inl k
    through u lu (inr p) =
        elim (begins_some_push (take i ws) (get_or ws i []) (text_of ws u) (ap (λ vs. begins_some vs (text_of ws u)) (sym (take_more ws i [] li)) ∙ p.1)) [
          | inl g ↦ inr (p.0, g)
          | inr g ↦ absurd (omega (arith, begins-length (text_of ws u) (get_or ws i []) g, p.0))
        ]

state_begins : (ws : List Text) (u : ℕ) → u < length (states ws) → 0 < length (text_of ws u) → begins_some ws (text_of ws u) ≡ true
unfolding text_of
state_begins ws u lu l =
    elim (or_cases (same (text_of ws u) []) (begins_some ws (text_of ws u)) (sym (member-states ws (text_of ws u)) ∙ member-get_or (states ws) u lu)) [
      | inl g ↦ absurd (omega (arith, ap length (same_true (text_of ws u) [] g)))
      | inr g ↦ g
    ]

-- all words are one byte further
pub link_round : (ws : List Text) (d i : ℕ) (rows : List ℕ) (tells : List (Option ℕ)) (fail : List ℕ) → Linking ws d i rows tells fail → length ws ≤ i → Linking ws (d + 1) 0 rows tells fail
unfolding begins_some
link_round ws d i rows tells fail h l = linking_as ws d i (d + 1) 0 rows tells fail through h
  where
    through : (u : ℕ) → u < length (states ws) → Through ws (d + 1) 0 (text_of ws u) → Through ws d i (text_of ws u)
    through u lu (inl k) =
        elim (cases_lt d (length (text_of ws u))) [
          | inl g ↦ inr (omega arith, ap (λ vs. begins_some vs (text_of ws u)) (take_all i ws l) ∙ state_begins ws u lu (omega arith))
          | inr g ↦ inl g
        ]
    through u lu (inr p) = absurd (false≢true p.1)

pub link_none : (ws : List Text) (rows : List ℕ) (tells : List (Option ℕ)) (fail : List ℕ) → TrieOf ws rows tells → length fail ≡ length (states ws) →
    ((s : ℕ) → s < length (states ws) → get_or fail s 0 ≡ 0) → Linking ws 0 0 rows tells fail
unfolding begins_some text_of word_at last_index tail tells_of fail_of
link_none ws rows tells fail h lf z = record {
  rows_len = h.rows_len;
  tells_len = h.tells_len;
  fail_len = lf;
  fail_in = λ s l. rw (z s l) (some-states ws);
  goes = λ s b l k. inr (h.goes s b l k);
  ends = λ s l. inr (h.ends s l);
  done = through;
}
  where
    empty : (s : ℕ) → length (text_of ws s) ≤ 0 → text_of ws s ≡ []
    empty s l = nil_from_length (text_of ws s) (omega arith)

    told : (t : Text) → t ≡ [] → word_at ws t ≡ last_index ws t
    told t e = rw e

    falls : (t : Text) → t ≡ [] → 0 ≡ state_of ws (tail ws (drop 1 t))
    falls t e = rw e (sym (state_start ws))

    through : (s : ℕ) → s < length (states ws) → Through ws 0 0 (text_of ws s) → Done ws rows tells fail s
    through s l (inl k) = record {
      row = λ b lb. h.goes s b l lb ∙ sym (goto_root ws s b (empty s k));
      told = h.ends s l ∙ told (text_of ws s) (empty s k);
      falls = z s l ∙ falls (text_of ws s) (empty s k);
    }
    through s l (inr p) = absurd (false≢true p.1)

begins_some-length : (ws : List Text) (t : Text) (m : ℕ) → ((k : ℕ) → k < length ws → length (get_or ws k []) ≤ m) → begins_some ws t ≡ true → length t ≤ m
unfolding begins_some
begins_some-length [] t m l e = absurd (false≢true e)
begins_some-length (w ∷ ws) t m l e =
    elim (or_cases (begins t w) (begins_some ws t) e) [
      | inl g ↦ omega (arith, begins-length t w g, l 0 (omega arith))
      | inr g ↦ begins_some-length ws t m (λ k lk. l (suc k) (omega arith)) g
    ]

-- when all words have come to their end, the table is right
pub link_all : (ws : List Text) (d : ℕ) (rows : List ℕ) (tells : List (Option ℕ)) (fail : List ℕ) → Linking ws d 0 rows tells fail →
    ((k : ℕ) → k < length ws → length (get_or ws k []) ≤ d) → Right ws rows tells
link_all ws d rows tells fail h l = record {
  rows_len = h.rows_len;
  tells_len = h.tells_len;
  goes = λ s b ls lb. (h.done s ls (inl (short s ls))).row b lb;
  ends = λ s ls. (h.done s ls (inl (short s ls))).told;
}
  where
    short : (s : ℕ) → s < length (states ws) → length (text_of ws s) ≤ d
    short s ls =
        elim (cases_lt 0 (length (text_of ws s))) [
          | inl g ↦ begins_some-length ws (text_of ws s) d l (state_begins ws s ls g)
          | inr g ↦ omega arith
        ]

-- where each word has come
pub walk_none : (ws : List Text) (at : List ℕ) → length at ≡ length ws → ((k : ℕ) → k < length ws → get_or at k 0 ≡ 0) → Walked ws 0 0 at
walk_none ws at l z = record {
  len = l;
  ahead = λ k h _. absurd (omega arith);
  behind = λ k _ h. z k h ∙ sym (state_start ws);
}

pub walk_step : (ws : List Text) (d i : ℕ) (at : List ℕ) (c : ℕ) → Walked ws d i at → i < length ws → c ≡ state_of ws (take (d + 1) (get_or ws i [])) → Walked ws d (i + 1) (set at i c)
walk_step ws d i at c h li e = record {
  len = length-set at i c ∙ h.len;
  ahead = λ k l lk. elim (cases_eq k i) [
    | inl z ↦ rw z (get_or-set_same at i c 0 (omega (arith, h.len)) ∙ e)
    | inr n ↦ get_or-set_other at i k c 0 n ∙ h.ahead k (omega arith) lk
  ];
  behind = λ k l lk. let n : k ≢ i = omega arith in get_or-set_other at i k c 0 n ∙ h.behind k (omega arith) lk;
}

pub walk_skip : (ws : List Text) (d i : ℕ) (at : List ℕ) → Walked ws d i at → i < length ws → length (get_or ws i []) ≤ d → Walked ws d (i + 1) at
walk_skip ws d i at h li l = record {
  len = h.len;
  ahead = λ k lk lw. elim (cases_eq k i) [
    | inl z ↦ rw z (h.behind i (omega arith) li
        ∙ ap (state_of ws) (take_all d (get_or ws i []) l ∙ sym (take_all (d + 1) (get_or ws i []) (omega arith))))
    | inr n ↦ h.ahead k (omega arith) lw
  ];
  behind = λ k lk lw. h.behind k (omega arith) lw;
}

-- the remembered end is the longest end that is a state
tail_end : (ws : List Text) (t : Text) → (front : Text) × (t ≡ front ++ tail ws t)
unfolding tail
tail_end ws [] = ([], refl)
tail_end ws (y ∷ ys) =
    let r = tail_end ws ys in
    cond_both (begins_some ws (y ∷ ys)) (y ∷ ys) (tail ws ys) (λ e. (front : Text) × (y ∷ ys ≡ front ++ e)) (λ _. ([], refl)) (λ _. (y ∷ r.0, ap (λ l. y ∷ l) r.1))

tail_longest : (ws : List Text) (t front end : Text) → t ≡ front ++ end → member end (states ws) ≡ true → length end ≤ length (tail ws t)
unfolding tail
tail_longest ws [] front end e m = omega (arith, ap length e, length-append front end)
tail_longest ws (y ∷ ys) front end e m =
    elim (cases_Bool (begins_some ws (y ∷ ys))) [
      | inl h ↦ rw h (omega (arith, ap length e, length-append front end))
      | inr h ↦ rw h (past (λ f p. tail_longest ws ys f end p m) h front e)
    ]
  where
    past : ((f : Text) → ys ≡ f ++ end → length end ≤ length (tail ws ys)) → begins_some ws (y ∷ ys) ≡ false → (front : Text) → y ∷ ys ≡ front ++ end → length end ≤ length (tail ws ys)
    past ih h [] g =
        absurd (both_ways (member end (states ws)) (ap (λ t. member t (states ws)) (sym g) ∙ member-states ws (y ∷ ys)
        ∙ or_from (same (y ∷ ys) []) (begins_some ws (y ∷ ys)) (same_false (y ∷ ys) [] (λ z. omega (arith, ap length z))) h) m)
    past ih h (x ∷ xs) g = let q : ys ≡ xs ++ end = cc in ih xs q

pub goes_to_longest : GoesToLongest
unfolding goto
goes_to_longest ws s b =
    let t = text_tail ws (text_of ws s ++ (b ∷ [])) in
    let f = tail_end ws (text_of ws s ++ (b ∷ [])) in
    (goto_in ws s b, (f.0, f.1 ∙ ap (λ e. f.0 ++ e) (sym t)), λ front end e m. rw t (tail_longest ws (text_of ws s ++ (b ∷ [])) front end e m))

pub states_are : StatesAre
states_are ws = (member-states ws, same_state ws)

pub examples : Examples
unfolding begins begins_some tail same member place inits inits_of add add_all states text_of state_of goto run last_index tells_of
examples = (refl, refl, refl, refl, refl)
