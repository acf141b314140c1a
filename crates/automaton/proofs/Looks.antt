-- Looking at new bytes by a table.
-- Assumes nothing.
use Rattle.std.proofs.Common.{◌≡◌, ℕ, suc, ◌+◌, ◌*◌, ◌/◌, ◌%◌, ◌<◌, ◌≤◌, cond, List, [], ◌∷◌, ◌++◌, length, get_or, drop, Some, None, Ok, Err, Option, Result, sym, refl, ap, ◌∙◌, subst, inl, inr, append_assoc, add-zero, arith}
use Rattle.std.proofs.lemmas.List.{drop_more, drop_all, append-nil, length_push}
use Rattle.std.proofs.lemmas.Bool.{cases_Bool}
use Rattle.automaton.specs.Look.{last_word, look, or_found}
use Rattle.automaton.specs.Look as looks
use Rattle.automaton.specs.Text.{Text, member}
use Rattle.automaton.specs.States.{states, goto, place, run, last_index, tells_of}
use Rattle.automaton.specs.Link.{Right}
use Rattle.automaton.specs.declared.scan.Match.{Match}
use Rattle.automaton.specs.Scanned.{Sound, found_or, scanned, Finds, Judged}
use Rattle.automaton.proofs.States.{get_or-place, some-states, state_tail_in, goto-tail, run_start, tells_run, tells_longest}
use Rattle.automaton.proofs.Links.{goto_in}

-- one byte more, at the place i, which leads to the state u
module _ (rows : List ℕ) (tells : List (Option ℕ)) (s i u : ℕ) (bytes : List ℕ) (l : i < length bytes) (e : u ≡ get_or rows (s * 256 + get_or bytes i 0) 0) where
  step : scanned rows tells s i (drop i bytes) ≡ found_or (get_or tells u None) i (scanned rows tells u (i + 1) (drop (i + 1) bytes))
  unfolding scanned
  step = rw (drop_more bytes i 0 l, e)

  pub scanned_clean : get_or tells u None ≡ None → scanned rows tells u (i + 1) (drop (i + 1) bytes) ≡ scanned rows tells s i (drop i bytes)
  scanned_clean n = sym (step ∙ ap (λ o. found_or o i (scanned rows tells u (i + 1) (drop (i + 1) bytes))) n)

  pub scanned_found : (w : ℕ) → get_or tells u None ≡ Some w → Err (record { at = i; word = w }) ≡ scanned rows tells s i (drop i bytes)
  scanned_found w n = sym (step ∙ ap (λ o. found_or o i (scanned rows tells u (i + 1) (drop (i + 1) bytes))) n)

pub scanned_all : (rows : List ℕ) (tells : List (Option ℕ)) (s i : ℕ) (bytes : List ℕ) → length bytes ≤ i → Ok s ≡ scanned rows tells s i (drop i bytes)
unfolding scanned
scanned_all rows tells s i bytes l = rw (drop_all i bytes l)

pub no_some : (o : Option ℕ) → ((n : ℕ) → o ≡ Some n → ⊥) → o ≡ None
no_some None h = refl
no_some (Some n) h = absurd (h n refl)

-- a table that is right has states alone for entries
pub right_sound : (ws : List Text) (rows : List ℕ) (tells : List (Option ℕ)) → Right ws rows tells → Sound rows tells
right_sound ws rows tells h = record {
  rows_len = h.rows_len ∙ ap (λ n. n * 256) (sym h.tells_len);
  rows_in = λ k l.
      let e : (k / 256) * 256 + k % 256 ≡ k = omega arith in
      let p : k / 256 < length (states ws) = omega (arith, h.rows_len) in
      let q : k % 256 < 256 = omega arith in
      rw h.tells_len (subst (λ m. get_or rows m 0 < length (states ws)) e (rw (h.goes (k / 256) (k % 256) p q) (goto_in ws (k / 256) (k % 256))));
}

-- the number of a text's last word, and the word
abbrev named : List Text → Option ℕ → Option Text
named ws None = None
named ws (Some i) = Some (get_or ws i [])

named_or : (ws : List Text) (t : Text) (o : Option Text) (n : Option ℕ) → o ≡ named ws n → cond (member t ws) (Some t) o ≡ named ws (cond (member t ws) (Some (place t ws)) n)
named_or ws t o n e = elim (cases_Bool (member t ws)) [ inl m ↦ rw m (ap Some (sym (get_or-place t ws m))) | inr m ↦ rw m e ]

last_named : (ws : List Text) (t : Text) → last_word ws t ≡ named ws (last_index ws t)
unfolding last_word last_index
last_named ws [] = named_or ws [] None None refl
last_named ws (y ∷ ys) = named_or ws (y ∷ ys) (last_word ws ys) (last_index ws ys) (last_named ws ys)

pub right-some : (ws : List Text) (rows : List ℕ) (tells : List (Option ℕ)) → Right ws rows tells → 0 < length tells
right-some ws rows tells h = rw h.tells_len (some-states ws)

-- what a look says where the first of the bytes has the number i
abbrev JudgedAt : List Text → Text → ℕ → List ℕ → Result ℕ Match → Type 0
JudgedAt ws t i bytes (Ok s) = (look ws t bytes ≡ None) × (s ≡ run ws 0 (t ++ bytes))
JudgedAt ws t i bytes (Err m) =
    (k : ℕ) × (m.at ≡ i + k) × (k < length bytes) × (m.word < length ws) × (look ws t bytes ≡ Some (record { place = length t + k; word = get_or ws m.word [] }))

look_more : (ws : List Text) (t : Text) (b : ℕ) (bs : List ℕ) → last_word ws (t ++ (b ∷ [])) ≡ None → look ws t (b ∷ bs) ≡ look ws (t ++ (b ∷ [])) bs
unfolding look
look_more ws t b bs e = ap (λ o. or_found o (length t) (look ws (t ++ (b ∷ [])) bs)) e

look_here : (ws : List Text) (t w : Text) (b : ℕ) (bs : List ℕ) → last_word ws (t ++ (b ∷ [])) ≡ Some w → look ws t (b ∷ bs) ≡ Some (record { place = length t; word = w })
unfolding look
look_here ws t w b bs e = ap (λ o. or_found o (length t) (look ws (t ++ (b ∷ [])) bs)) e

judged_later : (ws : List Text) (t : Text) (i b : ℕ) (bs : List ℕ) (r : Result ℕ Match) → last_word ws (t ++ (b ∷ [])) ≡ None → JudgedAt ws (t ++ (b ∷ [])) (i + 1) bs r → JudgedAt ws t i (b ∷ bs) r
judged_later ws t i b bs (Ok s) e j = (look_more ws t b bs e ∙ j.0, j.1 ∙ ap (run ws 0) (append_assoc t (b ∷ []) bs))
judged_later ws t i b bs (Err m) e j =
    let p : length (t ++ (b ∷ [])) + j.0 ≡ length t + suc j.0 = omega (arith, length_push t b) in (
      suc j.0,
      omega (arith, j.1),
      omega (arith, j.2),
      j.3,
      look_more ws t b bs e ∙ j.4 ∙ ap (λ n. Some (record { place = n; word = get_or ws m.word [] })) p,
    )

run_in : (ws : List Text) (t : Text) → run ws 0 t < length (states ws)
run_in ws t = rw (run_start ws t) (state_tail_in ws t)

run_more : (ws : List Text) (t : Text) (b : ℕ) → goto ws (run ws 0 t) b ≡ run ws 0 (t ++ (b ∷ []))
run_more ws t b = ap (λ s. goto ws s b) (run_start ws t) ∙ goto-tail ws t b ∙ sym (run_start ws (t ++ (b ∷ [])))

judge : (ws : List Text) (rows : List ℕ) (tells : List (Option ℕ)) → Right ws rows tells → (bytes : List ℕ) → ((k : ℕ) → get_or bytes k 0 < 256) →
    (t : Text) (s i : ℕ) → s ≡ run ws 0 t → JudgedAt ws t i bytes (scanned rows tells s i bytes)
unfolding scanned look
judge ws rows tells h [] f t s i e = (refl, e ∙ ap (run ws 0) (sym (append-nil t)))
judge ws rows tells h (b ∷ bs) f t s i e = go (judge ws rows tells h bs (λ k. f (suc k)) (t ++ (b ∷ [])) u (i + 1) next) (get_or tells u None) refl
  where
    u : ℕ
    u = get_or rows (s * 256 + b) 0

    next : u ≡ run ws 0 (t ++ (b ∷ []))
    next = h.goes s b (rw e (run_in ws t)) (f 0) ∙ ap (λ m. goto ws m b) e ∙ run_more ws t b

    last : get_or tells u None ≡ last_index ws (t ++ (b ∷ []))
    last = h.ends u (rw next (run_in ws (t ++ (b ∷ [])))) ∙ ap (tells_of ws) next ∙ tells_run ws (t ++ (b ∷ []))

    go : JudgedAt ws (t ++ (b ∷ [])) (i + 1) bs (scanned rows tells u (i + 1) bs) →
        (o : Option ℕ) → get_or tells u None ≡ o → JudgedAt ws t i (b ∷ bs) (found_or o i (scanned rows tells u (i + 1) bs))
    go later None g = judged_later ws t i b bs (scanned rows tells u (i + 1) bs) (last_named ws (t ++ (b ∷ [])) ∙ ap (named ws) (sym last ∙ g)) later
    go later (Some w) g = (
      0,
      omega arith,
      omega arith,
      (tells_longest ws (t ++ (b ∷ [])) w (sym last ∙ g)).0,
      look_here ws t (get_or ws w []) b bs (last_named ws (t ++ (b ∷ [])) ∙ ap (named ws) (sym last ∙ g)) ∙ ap (λ n. Some (record { place = n; word = get_or ws w [] })) (sym (add-zero (length t))),
    )

judged_at : (ws : List Text) (t : Text) (bytes : List ℕ) (r : Result ℕ Match) → JudgedAt ws t 0 bytes r → Judged ws t bytes r
judged_at ws t bytes (Ok s) j = j
judged_at ws t bytes (Err m) j =
    let p : j.0 ≡ m.at = omega (arith, j.1) in
    (omega (arith, j.2), j.3, j.4 ∙ ap (λ n. Some (record { place = length t + n; word = get_or ws m.word [] })) p)

-- what is scanned is what the look finds
pub finds_scanned : (rows : List ℕ) (tells : List (Option ℕ)) (s : ℕ) (bytes : List ℕ) → ((k : ℕ) → get_or bytes k 0 < 256) →
    (r : Result ℕ Match) → r ≡ scanned rows tells s 0 bytes → Finds rows tells s bytes r
finds_scanned rows tells s bytes f r e ws t h es = judged_at ws t bytes r (rw e (judge ws rows tells h bytes f t s 0 es))

-- bytes after the one that completes a word do not count
pub look_on : (ws : List Text) (xs ys t : Text) (f : looks.Found) → look ws t xs ≡ Some f → look ws t (xs ++ ys) ≡ Some f
unfolding look
look_on ws [] ys t f e = absurd (let z : ◌≡◌ {A = ℕ} 0 1 = cc in omega arith)
look_on ws (x ∷ xs) ys t f e = go (look_on ws xs ys (t ++ (x ∷ [])) f) (last_word ws (t ++ (x ∷ []))) e
  where
    go : (look ws (t ++ (x ∷ [])) xs ≡ Some f → look ws (t ++ (x ∷ [])) (xs ++ ys) ≡ Some f) →
        (o : Option Text) → or_found o (length t) (look ws (t ++ (x ∷ [])) xs) ≡ Some f → or_found o (length t) (look ws (t ++ (x ∷ [])) (xs ++ ys)) ≡ Some f
    go h (Some w) g = g
    go h None g = h g

-- a state that a text leads to is one of the table's
pub state_in : (ws : List Text) (rows : List ℕ) (tells : List (Option ℕ)) (s : ℕ) (t : Text) → Right ws rows tells → s ≡ run ws 0 t → s < length tells
state_in ws rows tells s t h e = rw (h.tells_len, e) (run_in ws t)
