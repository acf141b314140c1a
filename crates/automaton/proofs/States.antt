-- The states of the automaton: which texts they are, that none stands twice, and that a run remembers the longest end.
-- Assumes nothing.
use Rattle.std.proofs.Common.{◌≡◌, ℕ, zero, suc, ◌<◌, ◌≤◌, Bool, true, false, cond, ◌&&◌, ◌||◌, eqb, List, [], ◌∷◌, ◌++◌, map, length, get_or, is_some, Some, None, sym, refl, ap, ◌∙◌, inl, inr, append_assoc, arith}
use Rattle.std.proofs.lemmas.Bool.{false≢true, or_parts, or_from, and_parts, cond_both, eqb-true, eq-eqb, cases_lt, cases_Bool, true≢false, or_cases, or_left, or_right, cond-true, cond-false}
use Rattle.std.proofs.lemmas.List.{get_or_append_left, get_or_push, length_push, append-nil}
use Rattle.automaton.specs.Text.{Text, begins, begins_some, tail, same, ends_in, ends_in_some, member}
use Rattle.automaton.specs.States.{place, inits, inits_of, add, add_all, states, text_of, state_of, goto, run, last_index, tells_of}
use Rattle.automaton.specs.Promise.{RunRemembers, RunTells, TellsLongest}
use Rattle.automaton.proofs.Tail.{or_mix, same-begins, tail_enough, has_more}

pub or-true : (b : Bool) → (b || true) ≡ true
or-true true = refl
or-true false = refl

pub or-false : (b : Bool) → (b || false) ≡ b
or-false true = refl
or-false false = refl

or_assoc : (a b c : Bool) → ((a || b) || c) ≡ (a || (b || c))
or_assoc true b c = refl
or_assoc false b c = refl

and-or : (x y z : Bool) → ((x && y) || (x && z)) ≡ (x && (y || z))
and-or true y z = refl
and-or false y z = refl

pub same_refl : (t : Text) → same t t ≡ true
unfolding same
same_refl [] = refl
same_refl (x ∷ xs) = rw (eq-eqb x x refl) (same_refl xs)

pub same_true : (t u : Text) → same t u ≡ true → t ≡ u
unfolding same
same_true [] [] e = refl
same_true [] (y ∷ ys) e = absurd (false≢true e)
same_true (x ∷ xs) [] e = absurd (false≢true e)
same_true (x ∷ xs) (y ∷ ys) e =
    let p = and_parts (eqb x y) (same xs ys) e in
    let h = eqb-true x y p.0 in
    let r = same_true xs ys p.1 in
    cc

-- where a text stands in a list
pub place_in : (t : Text) (xs : List Text) → member t xs ≡ true → place t xs < length xs
unfolding member place
place_in t [] e = absurd (false≢true e)
place_in t (x ∷ xs) e =
    cond_both (same t x) 0 (suc (place t xs)) (λ n. n < suc (length xs)) (λ h. omega arith)
    (λ h. let r : place t xs < length xs = place_in t xs (rw h at e) in omega arith)

pub get_or-place : (t : Text) (xs : List Text) → member t xs ≡ true → get_or xs (place t xs) [] ≡ t
unfolding member place
get_or-place t [] e = absurd (false≢true e)
get_or-place t (x ∷ xs) e =
    cond_both (same t x) 0 (suc (place t xs)) (λ n. get_or (x ∷ xs) n [] ≡ t) (λ h. sym (same_true t x h))
    (λ h. get_or-place t xs (rw h at e))

pub member-get_or : (xs : List Text) (i : ℕ) → i < length xs → member (get_or xs i []) xs ≡ true
unfolding member
member-get_or [] i h = absurd (omega arith)
member-get_or (x ∷ xs) zero h = rw (same_refl x)
member-get_or (x ∷ xs) (suc i) h = rw (member-get_or xs i (omega arith)) (or-true (same (get_or xs i []) x))

pub member-append : (t : Text) (xs ys : List Text) → member t (xs ++ ys) ≡ (member t xs || member t ys)
unfolding member
member-append t [] ys = refl
member-append t (x ∷ xs) ys = ap (λ v. same t x || v) (member-append t xs ys) ∙ sym (or_assoc (same t x) (member t xs) (member t ys))

pub place-append_left : (t : Text) (xs ys : List Text) → member t xs ≡ true → place t (xs ++ ys) ≡ place t xs
unfolding member place
place-append_left t [] ys e = absurd (false≢true e)
place-append_left t (x ∷ xs) ys e =
    elim (cases_Bool (same t x)) [ inl h ↦ rw h | inr h ↦ rw h (ap suc (place-append_left t xs ys (rw h at e))) ]

pub place_push : (t : Text) (xs : List Text) → member t xs ≡ false → place t (xs ++ (t ∷ [])) ≡ length xs
unfolding member place
place_push t [] e = rw (same_refl t)
place_push t (x ∷ xs) e =
    let p = or_parts (same t x) (member t xs) e in
    rw p.0 (ap suc (place_push t xs p.1))

-- which texts stand in the list of beginnings
pub member-add : (t : Text) (xs : List Text) (p : Text) → member t (add xs p) ≡ (member t xs || same t p)
unfolding add member
member-add t xs p =
    cond_both (member p xs) xs (xs ++ (p ∷ [])) (λ l. member t l ≡ (member t xs || same t p))
    (λ h. elim (cases_Bool (same t p)) [
      | inl e ↦ rw (e, same_true t p e, h)
      | inr e ↦ rw (e, or-false (member t xs))
    ])
    (λ h. member-append t xs (p ∷ []) ∙ ap (λ v. member t xs || v) (or-false (same t p)))

pub member-add_all : (t : Text) (ps xs : List Text) → member t (add_all xs ps) ≡ (member t xs || member t ps)
unfolding add_all member
member-add_all t [] xs = sym (or-false (member t xs))
member-add_all t (p ∷ ps) xs =
    member-add_all t ps (add xs p) ∙ ap (λ v. v || member t ps) (member-add t xs p) ∙ or_assoc (member t xs) (same t p) (member t ps)

member-map-cons : (c : ℕ) (cs : Text) (b : ℕ) (ts : List Text) → member (c ∷ cs) (map (λ t. b ∷ t) ts) ≡ (eqb c b && member cs ts)
unfolding member same
member-map-cons c cs b [] = elim (eqb c b) as (λ v. false ≡ (v && false)) [ true ↦ refl | false ↦ refl ]
member-map-cons c cs b (t ∷ ts) =
    ap (λ v. (eqb c b && same cs t) || v) (member-map-cons c cs b ts) ∙ and-or (eqb c b) (same cs t) (member cs ts)

-- the empty text begins every word, and any other that begins it is one of its beginnings
pub member-inits : (t w : Text) → begins t w ≡ (same t [] || member t (inits w))
unfolding begins same member inits
member-inits [] w = refl
member-inits (c ∷ cs) [] = refl
member-inits (c ∷ cs) (b ∷ bs) =
    ap (λ v. eqb c b && v) (member-inits cs bs) ∙ sym (and-or (eqb c b) (same cs []) (member cs (inits bs)))
    ∙ ap (λ v. (eqb c b && same cs []) || v) (sym (member-map-cons c cs b (inits bs)))

pub member-inits_of : (t : Text) (ws : List Text) → (same t [] || begins_some ws t) ≡ (same t [] || member t (inits_of ws))
unfolding begins_some inits_of member
member-inits_of t [] = refl
member-inits_of t (w ∷ ws) =
    rw (member-inits t w, member-append t (inits w) (inits_of ws)) (join (same t []) (member t (inits w)) (begins_some ws t) (member t (inits_of ws)) (member-inits_of t ws))
  where
    join : (a b c d : Bool) → (a || c) ≡ (a || d) → (a || ((a || b) || c)) ≡ (a || (b || d))
    join true b c d e = refl
    join false b c d e = ap (λ v. b || v) e

-- the states are the empty text and what a word begins with
pub member-states : (ws : List Text) (t : Text) → member t (states ws) ≡ (same t [] || begins_some ws t)
unfolding states member
member-states ws t =
    member-add_all t (inits_of ws) ([] ∷ []) ∙ ap (λ v. v || member t (inits_of ws)) (or-false (same t [])) ∙ sym (member-inits_of t ws)

-- no text stands twice
abbrev pub Apart : List Text → Type 0
Apart xs = (i : ℕ) → i < length xs → place (get_or xs i []) xs ≡ i

pub apart_add : (xs : List Text) (p : Text) → Apart xs → Apart (add xs p)
unfolding add
apart_add xs p h =
    cond_both (member p xs) xs (xs ++ (p ∷ [])) Apart (λ e. h)
    (λ e i l. elim (cases_lt i (length xs)) [
      | inl k ↦ rw (get_or_append_left xs (p ∷ []) [] i k, place-append_left (get_or xs i []) xs (p ∷ []) (member-get_or xs i k)) (h i k)
      | inr k ↦ let z : length xs ≡ i = omega (arith, length_push xs p) in rw (get_or_push xs p [] i z, place_push p xs e) z
    ])

pub apart_add_all : (ps xs : List Text) → Apart xs → Apart (add_all xs ps)
unfolding add_all
apart_add_all [] xs h = h
apart_add_all (p ∷ ps) xs h = apart_add_all ps (add xs p) (apart_add xs p h)

-- what was found stays where it is
pub length-add : (xs : List Text) (p : Text) → length xs ≤ length (add xs p)
unfolding add
length-add xs p = cond_both (member p xs) xs (xs ++ (p ∷ [])) (λ l. length xs ≤ length l) (λ e. omega arith) (λ e. omega (arith, length_push xs p))

pub get_or-add : (xs : List Text) (p : Text) (i : ℕ) → i < length xs → get_or (add xs p) i [] ≡ get_or xs i []
unfolding add
get_or-add xs p i l =
    cond_both (member p xs) xs (xs ++ (p ∷ [])) (λ l. get_or l i [] ≡ get_or xs i []) (λ e. refl) (λ e. get_or_append_left xs (p ∷ []) [] i l)

pub get_or-add_all : (ps xs : List Text) (i : ℕ) → i < length xs → (i < length (add_all xs ps)) × (get_or (add_all xs ps) i [] ≡ get_or xs i [])
unfolding add_all
get_or-add_all [] xs i l = (l, refl)
get_or-add_all (p ∷ ps) xs i l =
    let r = get_or-add_all ps (add xs p) i (omega (arith, length-add xs p)) in
    (r.0, r.1 ∙ get_or-add xs p i l)

apart_start : Apart ([] ∷ [])
unfolding place same
apart_start zero l = refl
apart_start (suc i) l = absurd (omega arith)

pub apart_states : (ws : List Text) → Apart (states ws)
unfolding states
apart_states ws = apart_add_all (inits_of ws) ([] ∷ []) apart_start

pub some-states : (ws : List Text) → 0 < length (states ws)
unfolding states
some-states ws = (get_or-add_all (inits_of ws) ([] ∷ []) 0 (omega arith)).0

pub text_start : (ws : List Text) → text_of ws 0 ≡ []
unfolding states text_of
text_start ws = (get_or-add_all (inits_of ws) ([] ∷ []) 0 (omega arith)).1

pub state_text : (ws : List Text) (s : ℕ) → s < length (states ws) → state_of ws (text_of ws s) ≡ s
unfolding state_of text_of
state_text ws s l = apart_states ws s l

pub state_start : (ws : List Text) → state_of ws [] ≡ 0
state_start ws = ap (state_of ws) (sym (text_start ws)) ∙ state_text ws 0 (some-states ws)

-- the remembered end is a state
pub member-tail : (ws : List Text) (t : Text) → member (tail ws t) (states ws) ≡ true
unfolding tail same
member-tail ws [] = member-states ws []
member-tail ws (y ∷ ys) =
    cond_both (begins_some ws (y ∷ ys)) (y ∷ ys) (tail ws ys) (λ t. member t (states ws) ≡ true)
    (λ e. member-states ws (y ∷ ys) ∙ e) (λ e. member-tail ws ys)

pub text_tail : (ws : List Text) (t : Text) → text_of ws (state_of ws (tail ws t)) ≡ tail ws t
unfolding state_of text_of
text_tail ws t = get_or-place (tail ws t) (states ws) (member-tail ws t)

pub state_tail_in : (ws : List Text) (t : Text) → state_of ws (tail ws t) < length (states ws)
unfolding state_of
state_tail_in ws t = place_in (tail ws t) (states ws) (member-tail ws t)

-- one byte more
pub goto-tail : (ws : List Text) (t : Text) (b : ℕ) → goto ws (state_of ws (tail ws t)) b ≡ state_of ws (tail ws (t ++ (b ∷ [])))
unfolding goto
goto-tail ws t b = rw (text_tail ws t) (ap (state_of ws) (sym (tail_enough ws t b)))

pub run-tail : (ws : List Text) (t u : Text) → run ws (state_of ws (tail ws t)) u ≡ state_of ws (tail ws (t ++ u))
unfolding run
run-tail ws t [] = ap (λ v. state_of ws (tail ws v)) (sym (append-nil t))
run-tail ws t (b ∷ bs) =
    ap (λ s. run ws s bs) (goto-tail ws t b) ∙ run-tail ws (t ++ (b ∷ [])) bs ∙ ap (λ v. state_of ws (tail ws v)) (append_assoc t (b ∷ []) bs)

pub run_start : (ws : List Text) (t : Text) → run ws 0 t ≡ state_of ws (tail ws t)
unfolding tail
run_start ws t = ap (λ s. run ws s t) (sym (state_start ws)) ∙ run-tail ws [] t

pub run_remembers : RunRemembers
run_remembers ws t = ap (text_of ws) (run_start ws t) ∙ text_tail ws t

-- the word that a text ends in
same_comm : (t u : Text) → same t u ≡ same u t
same_comm t u =
    elim (cases_Bool (same t u)) [
      | inl e ↦ e ∙ sym (ap (λ v. same u v) (same_true t u e) ∙ same_refl u)
      | inr e ↦ elim (cases_Bool (same u t)) [
        | inl f ↦ ap (λ v. same v u) (sym (same_true u t f)) ∙ same_refl u ∙ sym f
        | inr f ↦ e ∙ sym f
      ]
    ]

pub not-member : (ws : List Text) (t : Text) → begins_some ws t ≡ false → member t ws ≡ false
unfolding begins_some member
not-member [] t e = refl
not-member (w ∷ ws) t e =
    let p = or_parts (begins t w) (begins_some ws t) e in
    or_from (same t w) (member t ws) (same_comm t w ∙ same-begins w t p.0) (not-member ws t p.1)

pub last_tail : (ws : List Text) (t : Text) → last_index ws t ≡ last_index ws (tail ws t)
unfolding tail last_index
last_tail ws [] = refl
last_tail ws (y ∷ ys) =
    elim (cases_Bool (begins_some ws (y ∷ ys))) [
      | inl e ↦ rw e
      | inr e ↦ rw (e, not-member ws (y ∷ ys) e) (last_tail ws ys)
    ]

pub ends_nil : (ws : List Text) → ends_in_some ws [] ≡ member [] ws
unfolding ends_in_some ends_in member
ends_nil [] = refl
ends_nil (w ∷ ws) = rw (same_comm w [], ends_nil ws)

pub ends_cons : (ws : List Text) (y : ℕ) (ys : Text) → ends_in_some ws (y ∷ ys) ≡ (member (y ∷ ys) ws || ends_in_some ws ys)
unfolding ends_in_some ends_in member
ends_cons [] y ys = refl
ends_cons (w ∷ ws) y ys =
    rw (same_comm w (y ∷ ys), ends_cons ws y ys) (or_mix (same (y ∷ ys) w) (ends_in w ys) (member (y ∷ ys) ws) (ends_in_some ws ys))

pub last_ends : (ws : List Text) (t : Text) → is_some (last_index ws t) ≡ ends_in_some ws t
unfolding last_index
last_ends ws [] = rw (ends_nil ws) (elim (member [] ws) as (λ v. is_some (cond v (Some (place [] ws)) None) ≡ v) [ true ↦ refl | false ↦ refl ])
last_ends ws (y ∷ ys) =
    rw (ends_cons ws y ys)
    (elim (member (y ∷ ys) ws) as (λ v. is_some (cond v (Some (place (y ∷ ys) ws)) (last_index ws ys)) ≡ (v || ends_in_some ws ys)) [
      | true ↦ refl
      | false ↦ last_ends ws ys
    ])

pub tells_run : (ws : List Text) (t : Text) → tells_of ws (run ws 0 t) ≡ last_index ws t
unfolding tells_of
tells_run ws t = ap (last_index ws) (run_remembers ws t) ∙ sym (last_tail ws t)

pub run_tells : RunTells
run_tells ws t b e =
    (has_more ws t b ∙ rw e (sym (ap is_some (tells_run ws (t ++ (b ∷ []))) ∙ last_ends ws (t ++ (b ∷ [])))), tells_run ws (t ++ (b ∷ [])))

ends_length : (w t : Text) → ends_in w t ≡ true → length w ≤ length t
unfolding ends_in
ends_length w [] e = omega (arith, ap length (same_true w [] e))
ends_length w (y ∷ ys) e =
    elim (or_cases (same w (y ∷ ys)) (ends_in w ys) e) [
      | inl h ↦ omega (arith, ap length (same_true w (y ∷ ys) h))
      | inr h ↦ let l = ends_length w ys h in omega arith
    ]

some_is : (m n : ℕ) → Some m ≡ Some n → m ≡ n
some_is m n e = cc

none_is : (n : ℕ) → None ≡ Some n → ⊥
none_is n e = let z : ◌≡◌ {A = ℕ} 0 1 = cc in omega arith

-- a text that is a word itself tells of that
whole_word : (ws : List Text) (t : Text) (i : ℕ) → member t ws ≡ true → place t ws ≡ i → ends_in t t ≡ true →
    (i < length ws) × (ends_in (get_or ws i []) t ≡ true) × ((w : Text) → member w ws ≡ true → ends_in w t ≡ true → length w ≤ length (get_or ws i []))
whole_word ws t i m e s =
    let g : get_or ws i [] ≡ t = ap (λ n. get_or ws n []) (sym e) ∙ get_or-place t ws m in
    (rw (← e) (place_in t ws m), ap (λ w. ends_in w t) g ∙ s, λ w _ h. rw g (ends_length w t h))

pub tells_longest : TellsLongest
unfolding last_index ends_in
tells_longest ws [] i e =
    elim (cases_Bool (member [] ws)) [
      | inl m ↦ whole_word ws [] i m (some_is (place [] ws) i (sym (cond-true (member [] ws) (Some (place [] ws)) None m) ∙ e)) (same_refl [])
      | inr m ↦ absurd (none_is i (sym (cond-false (member [] ws) (Some (place [] ws)) None m) ∙ e))
    ]
tells_longest ws (y ∷ ys) i e =
    elim (cases_Bool (member (y ∷ ys) ws)) [
      | inl m ↦
          whole_word ws (y ∷ ys) i m (some_is (place (y ∷ ys) ws) i (sym (cond-true (member (y ∷ ys) ws) (Some (place (y ∷ ys) ws)) (last_index ws ys) m) ∙ e))
          (or_left (same (y ∷ ys) (y ∷ ys)) (ends_in (y ∷ ys) ys) (same_refl (y ∷ ys)))
      | inr m ↦
          let r = tells_longest ws ys i (sym (cond-false (member (y ∷ ys) ws) (Some (place (y ∷ ys) ws)) (last_index ws ys) m) ∙ e) in (
            r.0,
            or_right (same (get_or ws i []) (y ∷ ys)) (ends_in (get_or ws i []) ys) r.1,
            λ w mw h. elim (or_cases (same w (y ∷ ys)) (ends_in w ys) h) [
              | inl g ↦ absurd (true≢false (sym mw ∙ ap (λ t. member t ws) (same_true w (y ∷ ys) g) ∙ m))
              | inr g ↦ r.2 w mw g
            ],
          )
    ]
