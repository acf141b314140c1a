-- A table that holds the words' beginnings, one more of them after the other.
-- Assumes nothing.
use Rattle.std.proofs.Common.{◌≡◌, ℕ, ◌+◌, ◌-◌, ◌*◌, ◌<◌, true, false, cond, ◌||◌, eqb, List, [], ◌∷◌, ◌++◌, length, get_or, set, Some, None, Option, sym, refl, ap, ◌∙◌, inl, inr, arith}
use Rattle.std.proofs.lemmas.Bool.{true≢false, false≢true, or_from, or_cases, or_left, or_right, cond-true, cond-false, eq-eqb, ne_eqb, cases_lt, cases_Bool, cases_eq}
use Rattle.std.proofs.lemmas.List.{get_or_append_left, get_or-append_right, get_or_push, length_push, length-append, length-set, get_or-set_same, get_or-set_other, same_from_push}
use Rattle.automaton.specs.Text.{Text, begins_some, same, member}
use Rattle.automaton.specs.States.{place, add, states, text_of}
use Rattle.automaton.specs.Trie.{word_at, place_or0, onward, Trie}
use Rattle.automaton.proofs.Tail.{begins_some_longer}
use Rattle.automaton.proofs.States.{or-false, same_refl, same_true, get_or-place, member-append, place-append_left, place_push, member-add, member-states, Apart, apart_add, apart_states, text_start, some-states, length-add, get_or-add}

-- with each text its beginnings are there, the empty one at 0, and no text stands twice
pub record Rooted (seen : List Text) : Type 0 where
  pub some : 0 < length seen
  pub root : get_or seen 0 [] ≡ []
  pub apart : Apart seen
  pub closed : (t : Text) (b : ℕ) → member (t ++ (b ∷ [])) seen ≡ true → member t seen ≡ true

pub push_not_nil : (t : Text) (b : ℕ) → t ++ (b ∷ []) ≡ [] → ⊥
push_not_nil t b e = let z : length t + 1 ≡ 0 = sym (length_push t b) ∙ ap length e in omega arith

pub push_not-same : (t : Text) (b : ℕ) → t ++ (b ∷ []) ≡ t → ⊥
push_not-same t b e = let z : length t + 1 ≡ length t = sym (length_push t b) ∙ ap length e in omega arith

pub same_false : (t u : Text) → (t ≡ u → ⊥) → same t u ≡ false
same_false t u h = elim (cases_Bool (same t u)) [ inl e ↦ absurd (h (same_true t u e)) | inr e ↦ e ]

pub place-not_root : (seen : List Text) → Rooted seen → (t : Text) (b : ℕ) → member (t ++ (b ∷ [])) seen ≡ true → place (t ++ (b ∷ [])) seen ≡ 0 → ⊥
place-not_root seen r t b e z =
    push_not_nil t b (sym (get_or-place (t ++ (b ∷ [])) seen e) ∙ ap (λ n. get_or seen n []) z ∙ r.root)

pub rooted_add : (seen : List Text) (t : Text) (b : ℕ) → Rooted seen → member t seen ≡ true → Rooted (add seen (t ++ (b ∷ [])))
rooted_add seen t b r m =
    record {
      some = let h = length-add seen (t ++ (b ∷ [])) in let g = r.some in omega arith;
      root = get_or-add seen (t ++ (b ∷ [])) 0 r.some ∙ r.root;
      apart = apart_add seen (t ++ (b ∷ [])) r.apart;
      closed = λ u c e.
          member-add u seen (t ++ (b ∷ []))
          ∙ or_left (member u seen) (same u (t ++ (b ∷ [])))
          (elim (or_cases (member (u ++ (c ∷ [])) seen) (same (u ++ (c ∷ [])) (t ++ (b ∷ []))) (sym (member-add (u ++ (c ∷ [])) seen (t ++ (b ∷ []))) ∙ e)) [
            | inl h ↦ r.closed u c h
            | inr h ↦ ap (λ v. member v seen) (same_from_push u t c b (same_true (u ++ (c ∷ [])) (t ++ (b ∷ [])) h)).0 ∙ m
          ]);
    }

pub rooted_states : (ws : List Text) → Rooted (states ws)
unfolding text_of
rooted_states ws =
    record {
      some = some-states ws;
      root = text_start ws;
      apart = apart_states ws;
      closed = λ t b e.
          member-states ws t
          ∙ or_right (same t []) (begins_some ws t)
          (elim (or_cases (same (t ++ (b ∷ [])) []) (begins_some ws (t ++ (b ∷ []))) (sym (member-states ws (t ++ (b ∷ []))) ∙ e)) [
            | inl h ↦ absurd (push_not_nil t b (same_true (t ++ (b ∷ [])) [] h))
            | inr h ↦ elim (cases_Bool (begins_some ws t)) [ inl g ↦ g | inr g ↦ absurd (false≢true (sym (begins_some_longer ws t (b ∷ []) g) ∙ h)) ]
          ]);
    }

pub place_or0_known : (seen : List Text) (t : Text) → member t seen ≡ true → place_or0 seen t ≡ place t seen
unfolding place_or0
place_or0_known seen t e = cond-true (member t seen) (place t seen) 0 e

pub place_or0-none : (seen : List Text) (t : Text) → member t seen ≡ false → place_or0 seen t ≡ 0
unfolding place_or0
place_or0-none seen t e = cond-false (member t seen) (place t seen) 0 e

member_push : (seen : List Text) (q t : Text) → member t (seen ++ (q ∷ [])) ≡ (member t seen || same t q)
unfolding member
member_push seen q t = member-append t seen (q ∷ []) ∙ ap (λ v. member t seen || v) (or-false (same t q))

place_or0_other : (seen : List Text) (q t : Text) → same t q ≡ false → place_or0 (seen ++ (q ∷ [])) t ≡ place_or0 seen t
place_or0_other seen q t e =
    elim (cases_Bool (member t seen)) [
      | inl m ↦ place_or0_known (seen ++ (q ∷ [])) t (member_push seen q t ∙ or_left (member t seen) (same t q) m)
          ∙ place-append_left t seen (q ∷ []) m ∙ sym (place_or0_known seen t m)
      | inr m ↦ place_or0-none (seen ++ (q ∷ [])) t (member_push seen q t ∙ or_from (member t seen) (same t q) m e) ∙ sym (place_or0-none seen t m)
    ]

place_or0_push : (seen : List Text) (q : Text) → member q seen ≡ false → place_or0 (seen ++ (q ∷ [])) q ≡ length seen
place_or0_push seen q e =
    place_or0_known (seen ++ (q ∷ [])) q (member_push seen q q ∙ or_right (member q seen) (same q q) (same_refl q)) ∙ place_push q seen e

-- an entry of the table is another one than (s, b) where row or byte differ
apart_entries : (s b u c : ℕ) → b < 256 → c < 256 → ((u ≡ s) × (c ≡ b) → ⊥) → u * 256 + c ≡ s * 256 + b → ⊥
apart_entries s b u c lb lc n e = n (omega arith, omega arith)

-- one byte more of a word whose beginning so far is the state s; z is an empty row
module _ (seen ws : List Text) (rows z : List ℕ) (tells : List (Option ℕ)) (r : Rooted seen) (h : Trie seen ws rows tells)
    (zl : length z ≡ 256) (z0 : (i : ℕ) → get_or z i 0 ≡ 0) (s b : ℕ) (ls : s < length seen) (lb : b < 256) where
  known_test : member (onward seen s b) seen ≡ true → eqb (get_or rows (s * 256 + b) 0) 0 ≡ false
  known_test e =
      ne_eqb (get_or rows (s * 256 + b) 0) 0
      (λ g. place-not_root seen r (get_or seen s []) b e (sym (place_or0_known seen (onward seen s b) e) ∙ sym (h.goes s b ls lb) ∙ g))

  none_test : member (onward seen s b) seen ≡ false → eqb (get_or rows (s * 256 + b) 0) 0 ≡ true
  none_test e = eq-eqb (get_or rows (s * 256 + b) 0) 0 (h.goes s b ls lb ∙ place_or0-none seen (onward seen s b) e)

  new_len : length (set (rows ++ z) (s * 256 + b) (length tells)) ≡ length (seen ++ (onward seen s b ∷ [])) * 256
  new_len = simp (length-set, length-append) (omega (arith, h.rows_len))

  -- an entry of the table with a new state
  new_goes : member (onward seen s b) seen ≡ false → (u c : ℕ) → u < length (seen ++ (onward seen s b ∷ [])) → c < 256 →
      get_or (set (rows ++ z) (s * 256 + b) (length tells)) (u * 256 + c) 0 ≡ place_or0 (seen ++ (onward seen s b ∷ [])) (onward (seen ++ (onward seen s b ∷ [])) u c)
  new_goes e u c lu lc =
      elim (cases_lt u (length seen)) [
        | inl k ↦ rw (get_or_append_left seen (onward seen s b ∷ []) [] u k) (old k)
        | inr k ↦ fresh (omega (arith, length_push seen (onward seen s b)))
      ]
    where
      in_rows : s * 256 + b < length rows
      in_rows = omega (arith, h.rows_len)

      other : (u * 256 + c ≡ s * 256 + b → ⊥) → get_or (set (rows ++ z) (s * 256 + b) (length tells)) (u * 256 + c) 0 ≡ get_or (rows ++ z) (u * 256 + c) 0
      other n = get_or-set_other (rows ++ z) (s * 256 + b) (u * 256 + c) (length tells) 0 n

      miss : u < length seen → ((u ≡ s) × (c ≡ b) → ⊥) →
          get_or (set (rows ++ z) (s * 256 + b) (length tells)) (u * 256 + c) 0 ≡ place_or0 (seen ++ (onward seen s b ∷ [])) (onward seen u c)
      miss k n =
          other (apart_entries s b u c lb lc n)
          ∙ get_or_append_left rows z 0 (u * 256 + c) (omega (arith, h.rows_len))
          ∙ h.goes u c k lc
          ∙ sym (place_or0_other seen (onward seen s b) (onward seen u c) (same_false (onward seen u c) (onward seen s b) (λ g.
          let p = same_from_push (get_or seen u []) (get_or seen s []) c b g in
          n (sym (r.apart u k) ∙ ap (λ t. place t seen) p.0 ∙ r.apart s ls, p.1))))

      hit : u ≡ s → c ≡ b → get_or (set (rows ++ z) (s * 256 + b) (length tells)) (u * 256 + c) 0 ≡ place_or0 (seen ++ (onward seen s b ∷ [])) (onward seen u c)
      hit p q =
          rw (p, q)
          (get_or-set_same (rows ++ z) (s * 256 + b) (length tells) 0 (omega (arith, in_rows, length-append rows z))
          ∙ h.tells_len ∙ sym (place_or0_push seen (onward seen s b) e))

      old : u < length seen → get_or (set (rows ++ z) (s * 256 + b) (length tells)) (u * 256 + c) 0 ≡ place_or0 (seen ++ (onward seen s b ∷ [])) (onward seen u c)
      old k =
          elim (cases_eq u s) [
            | inl p ↦ elim (cases_eq c b) [ inl q ↦ hit p q | inr q ↦ miss k (λ x. q x.1) ]
            | inr p ↦ miss k (λ x. p x.0)
          ]

      -- a new state's row is empty, since no longer text is there without it
      longer : member (onward seen s b ++ (c ∷ [])) (seen ++ (onward seen s b ∷ [])) ≡ false
      longer =
          member_push seen (onward seen s b) (onward seen s b ++ (c ∷ []))
          ∙ or_from (member (onward seen s b ++ (c ∷ [])) seen) (same (onward seen s b ++ (c ∷ [])) (onward seen s b))
          (elim (cases_Bool (member (onward seen s b ++ (c ∷ [])) seen)) [
            | inl g ↦ absurd (true≢false (sym (r.closed (onward seen s b) c g) ∙ e))
            | inr g ↦ g
          ])
          (same_false (onward seen s b ++ (c ∷ [])) (onward seen s b) (push_not-same (onward seen s b) c))

      fresh : length seen ≡ u → get_or (set (rows ++ z) (s * 256 + b) (length tells)) (u * 256 + c) 0 ≡ place_or0 (seen ++ (onward seen s b ∷ [])) (onward (seen ++ (onward seen s b ∷ [])) u c)
      fresh k =
          other (λ g. omega (arith, in_rows, h.rows_len))
          ∙ get_or-append_right rows z (length rows) (u * 256 + c) 0 refl (omega (arith, h.rows_len))
          ∙ z0 (u * 256 + c - length rows)
          ∙ sym (ap (λ t. place_or0 (seen ++ (onward seen s b ∷ [])) (t ++ (c ∷ []))) (get_or_push seen (onward seen s b) [] u k)
          ∙ place_or0-none (seen ++ (onward seen s b ∷ [])) (onward seen s b ++ (c ∷ [])) longer)

  new_ends : member (onward seen s b) ws ≡ false → (u : ℕ) → u < length (seen ++ (onward seen s b ∷ [])) →
      get_or (tells ++ (None ∷ [])) u None ≡ word_at ws (get_or (seen ++ (onward seen s b ∷ [])) u [])
  unfolding word_at
  new_ends e u lu =
      elim (cases_lt u (length seen)) [
        | inl k ↦
            get_or_append_left tells (None ∷ []) None u (omega (arith, h.tells_len)) ∙ h.ends u k
            ∙ ap (word_at ws) (sym (get_or_append_left seen (onward seen s b ∷ []) [] u k))
        | inr k ↦
            let g : length seen ≡ u = omega (arith, length_push seen (onward seen s b)) in
            get_or_push tells None None u (h.tells_len ∙ g)
            ∙ sym (ap (word_at ws) (get_or_push seen (onward seen s b) [] u g) ∙ cond-false (member (onward seen s b) ws) (Some (place (onward seen s b) ws)) None e)
      ]

  -- the table then holds one text more, and the state reached is that of it
  pub step_by : (member (onward seen s b) seen ≡ false → member (onward seen s b) ws ≡ false) →
      (reaches : ℕ) → reaches ≡ cond (eqb (get_or rows (s * 256 + b) 0) 0) (length tells) (get_or rows (s * 256 + b) 0) →
      (rows' : List ℕ) → rows' ≡ cond (eqb (get_or rows (s * 256 + b) 0) 0) (set (rows ++ z) (s * 256 + b) (length tells)) rows →
      (tells' : List (Option ℕ)) → tells' ≡ cond (eqb (get_or rows (s * 256 + b) 0) 0) (tells ++ (None ∷ [])) tells →
      Trie (add seen (onward seen s b)) ws rows' tells' × (reaches ≡ place (onward seen s b) (add seen (onward seen s b)))
  unfolding add
  step_by w reaches ec rows' er tells' et =
      elim (cases_Bool (member (onward seen s b) seen)) [
        | inl e ↦
            let test = known_test e in
            rw (
              e,
              et ∙ cond-false (eqb (get_or rows (s * 256 + b) 0) 0) (tells ++ (None ∷ [])) tells test,
              er ∙ cond-false (eqb (get_or rows (s * 256 + b) 0) 0) (set (rows ++ z) (s * 256 + b) (length tells)) rows test,
            ) (
              h,
              ec ∙ cond-false (eqb (get_or rows (s * 256 + b) 0) 0) (length tells) (get_or rows (s * 256 + b) 0) test
                  ∙ h.goes s b ls lb ∙ place_or0_known seen (onward seen s b) e,
            )
        | inr e ↦
            let test = none_test e in
            rw (
              e,
              et ∙ cond-true (eqb (get_or rows (s * 256 + b) 0) 0) (tells ++ (None ∷ [])) tells test,
              er ∙ cond-true (eqb (get_or rows (s * 256 + b) 0) 0) (set (rows ++ z) (s * 256 + b) (length tells)) rows test,
            ) (
              record {
                rows_len = new_len;
                tells_len = length_push tells None ∙ ap (λ n. n + 1) h.tells_len ∙ sym (length_push seen (onward seen s b));
                goes = new_goes e;
                ends = new_ends (w e);
              },
              ec ∙ cond-true (eqb (get_or rows (s * 256 + b) 0) 0) (length tells) (get_or rows (s * 256 + b) 0) test
                  ∙ h.tells_len ∙ sym (place_push (onward seen s b) seen e),
            )
      ]
