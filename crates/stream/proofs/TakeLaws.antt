-- A segment taken by the code is a step of the model.
-- Assumes nothing.
use Rattle.std.proofs.Common.{◌≡◌, ℕ, ◌+◌, ◌-◌, ◌<◌, ◌≤◌, min, Bool, true, false, cond, not, ◌&&◌, ltb, leb, List, [], ◌∷◌, ◌++◌, length, get_or, drop, is_some, Some, None, Ok, Err, MatchBool, Option, Result, sym, refl, ap, ◌∙◌, subst, inl, inr, arith}
use Rattle.std.specs.List.{between}
use Rattle.std.proofs.lemmas.List.Edits.{length-between}
use Rattle.std.proofs.lemmas.List.{length-drop}
use Rattle.std.proofs.lemmas.Bool.{cases_lt, cond_both, cond-true, cond-false, lt-leb, le-ltb, lt-ltb}
use Rattle.std.proofs.lemmas.Bool.Decides.{nat_tests}
use Rattle.std.specs.Option.{option_or}
use Rattle.automaton.specs.Look.{Found, look}
use Rattle.automaton.specs.Text.{Text, nonempty}
use Rattle.sequence.specs.declared.Place.{Place}
use Rattle.sequence.specs.declared.Place.TheVariants.{Below, At}
use Rattle.sequence.specs.Places.{place_after, fitting}
use Rattle.window.specs.Known.{Known, Piece, Within, byte_of, cut, learn, none_known, onwards, overlay, piece}
use Rattle.window.specs.Shows.{Serves, Shows}
use Rattle.window.specs.Window.{knows, width}
use Rattle.window.proofs.KnownLaws.{length-overlay, none_known-same, or-none}
use Rattle.window.proofs.PieceLaws.{cut_inside, from_there, none_since, nth_within}
use Rattle.window.proofs.ShowLaws.{window_serves}
use Rattle.stream.specs.Look.{LookOf}
use Rattle.stream.specs.Part.{PartOf, fin_may_stand, kept_if}
use Rattle.stream.specs.Promise.{Sound}
use Rattle.stream.specs.Shown.{Answer, Shown, Stands, outcome_of}
use Rattle.stream.specs.Took.{Cuts, Differs, Took}
use Rattle.stream.specs.Steps.{Arrival, Arrives, Closed, Empty, Outcome, Passed, Segment, Word, after, fin_left, is_empty, on_look, outcome, piece_left, piece_of, run, step}
use Rattle.stream.specs.Stream.{Stream, blank, fin_fits, inner, kept_fin, new_text, next_known, none_elsewhere, passed_part, piece_at, places, shut_down, taken, up_to, window_end}
use Rattle.stream.specs.declared.look.Reached.{Reached}
use Rattle.stream.specs.declared.answer.WordAt.{WordAt}
use Rattle.stream.specs.declared.part.Part.{Part}
use Rattle.stream.specs.declared.stream.Stream.{Stream as Value}
use Rattle.stream.proofs.Kept.{promise}

after_below : (m n g : ℕ) → place_after (Below m) n ≡ Some g → n - m ≡ g
after_below m n g = cond_both (leb m n) (Some (n - m)) None (λ o. o ≡ Some g → n - m ≡ g) (λ t e. cc) (λ t e. absurd (none-some e))
  where
    none-some : None ≡ Some g → ⊥
    none-some e = let z : ◌≡◌ {A = ℕ} 0 1 = cc in omega arith

-- a segment's bytes stand before the place after them
before_end : (at : Place) (bs : List ℕ) (g j b : ℕ) → place_after at (length bs) ≡ Some g → byte_of (piece_at at bs) j ≡ Some b → j < g
before_end (At i) bs g j b e h =
    let t = from_there i bs j b h in
    let n = nth_within bs (j - i) b t.is in
    let eg : i + length bs ≡ g = cc in
    omega (arith, t.above)
before_end (Below m) bs g j b e h =
    let t = from_there 0 (drop m bs) j b h in
    let n = nth_within (drop m bs) (j - 0) b t.is in
    let l = length-drop m bs in
    let eg : length bs - m ≡ g = after_below m (length bs) g e in
    omega arith

pub closed-outcome : (w : ℕ) (ws : List Text) (s : Stream) (a : Segment) → s.shut ≡ true → outcome w ws s a ≡ Closed
closed-outcome w ws s a e = cond-true s.shut Closed (on_look (piece_left w s a) (fin_left w s a) (look ws s.text (new_text w s (piece_of a)))) e

pub run_push : (w : ℕ) (ws : List Text) (s : Stream) (before : List Arrival) (x : Arrival) → run w ws s (before ++ (x ∷ [])) ≡ step w ws (run w ws s before) x
unfolding run
run_push w ws s [] x = refl
run_push w ws s (y ∷ ys) x = run_push w ws (step w ws s y) ys x

-- the value after one more arrival stands for all of them
pub stands_more : (ws : List Text) (before : List Arrival) (x : Arrival) (w : ℕ) (v' : Value) → width v'.window ≡ w → Shown ws (step w ws (run w ws blank before) x) v' → Stands ws (before ++ (x ∷ [])) v'
stands_more ws before x w v' ew h =
    subst (λ (n : ℕ). Shown ws (run n ws blank (before ++ (x ∷ []))) v') (sym ew) (subst (λ (t : Stream). Shown ws t v') (sym (run_push w ws blank before x)) h)

pub took : (ws : List Text) (before : List Arrival) (a : Segment) (w : ℕ) (v' : Value) (bytes : List ℕ) (r : Answer) → nonempty ws ≡ true → width v'.window ≡ w →
    outcome w ws (run w ws blank before) a ≡ outcome_of ws bytes r → Shown ws (after w (run w ws blank before) a (outcome_of ws bytes r)) v' → Cuts (inner w (run w ws blank before) (piece_of a)).bytes a.bytes r →
    Took ws before a v' bytes r
took ws before a w v' bytes r ne ew eo h cuts = record {
  cuts = subst (λ (n : ℕ). Cuts (inner n (run n ws blank before) (piece_of a)).bytes a.bytes r) (sym ew) cuts;
  stands = stands_more ws before (Arrives a) w v' ew (subst (λ (o : Outcome). Shown ws (after w (run w ws blank before) a o) v') (sym eo) h);
  answer = subst (λ (n : ℕ). outcome n ws (run n ws blank before) a ≡ outcome_of ws bytes r) (sym ew) eo;
  kept = promise (width v'.window) ws ne (before ++ (Arrives a ∷ []));
}

length_none : (t : List ℕ) → length t ≡ 0 → t ≡ []
length_none [] e = refl
length_none (x ∷ xs) e = absurd (omega arith)

some-length : (t : List ℕ) → 0 < length t → is_empty t ≡ false
some-length [] l = absurd (omega arith)
some-length (x ∷ xs) l = refl

module _ (ws : List Text) (s : Stream) (v : Value) (a : Segment) (r : Part) (h : Shown ws s v) (so : Sound (width v.window) ws s)
    (pa : PartOf v.window.low (width v.window) v.marks.fin a.at (length a.bytes) r) where
  abbrev W : ℕ
  W = width v.window

  abbrev part : List ℕ
  part = between r.start r.end a.bytes

  inside : piece r.place part ≡ inner W s (piece_of a)
  inside =
      pa.is a.bytes refl ∙ ap (λ l. cut l (up_to v.marks.fin (min (l + W) places)) (piece_of a)) h.window
      ∙ ap (λ o. cut s.low (up_to o (window_end W s)) (piece_of a)) h.fin

  pub part_inside : part ≡ (inner W s (piece_of a)).bytes
  part_inside = ap (λ p. p.bytes) inside

  long : length part ≡ r.end - r.start
  long = length-between a.bytes r.start r.end pa.ends

  within : Within s.low W r.place (length part)
  within = rw (long, ← h.window) pa.within

  serves : Serves s.low W s.known (knows v.window)
  serves = window_serves s.low W s.known (knows v.window) h.shows

  learned : Shows s.low W (next_known W s (piece_of a)) (learn (piece r.place part) (knows v.window))
  learned = subst (λ (f : Known). Shows s.low W f (learn (piece r.place part) (knows v.window))) (ap (λ p. learn p s.known) inside) (serves.learns (piece r.place part) within)

  -- the bytes by which the text grows are those that the code looks at
  grows : onwards W v.marks.end (learn (piece r.place part) (knows v.window)) ≡ new_text W s (piece_of a)
  grows = ap (λ n. onwards W n (learn (piece r.place part) (knows v.window))) h.end ∙ (window_serves s.low W _ _ learned).reads W (length s.text) so.low_text

  pub looks : (l : Result Reached WordAt) → LookOf ws s.text (onwards W v.marks.end (learn (piece r.place part) (knows v.window))) l → LookOf ws s.text (new_text W s (piece_of a)) l
  looks l = subst (λ (t : Text). LookOf ws s.text t l) grows

  pub text_low : v.window.low ≤ v.marks.end
  text_low = omega (arith, h.window, h.end, so.low_text)

  pub text_ends_lem : knows v.window v.marks.end ≡ None
  text_ends_lem = ap (knows v.window) h.end ∙ serves.same (length s.text) so.low_text ∙ so.text_ends

  place_is : r.place ≡ (inner W s (piece_of a)).at
  place_is = ap (λ p. p.at) inside

  -- what is passed on is the part, overlaid
  pub passes : overlay (knows v.window) r.place part ≡ passed_part W s (piece_of a)
  passes = serves.overlays r.place part (omega (arith, place_is)) ∙ ap (λ p. overlay s.known p.at p.bytes) inside

  pub differs : (b : Bool) → MatchBool b (overlay (knows v.window) r.place part ≡ part → ⊥) (overlay (knows v.window) r.place part ≡ part) → Differs W s (piece_of a) b
  differs b d =
      subst (λ (x : List ℕ). MatchBool b (x ≡ (inner W s (piece_of a)).bytes → ⊥) (x ≡ (inner W s (piece_of a)).bytes)) passes
      (subst (λ (y : List ℕ). MatchBool b (overlay (knows v.window) r.place part ≡ y → ⊥) (overlay (knows v.window) r.place part ≡ y)) part_inside d)

  -- A FIN is kept by the code as by the model

  same_after : (g : ℕ) → ((j b : ℕ) → byte_of (piece_of a) j ≡ Some b → j < g) → (j : ℕ) → g ≤ j → s.known j ≡ next_known W s (piece_of a) j
  same_after g e j l =
      sym (ap (option_or (s.known j)) (none_since (byte_of (inner W s (piece_of a)) j)
      (λ b i. let n = e j b (cut_inside s.low (up_to s.fin (window_end W s)) (piece_of a) j b i).there in omega arith)) ∙ or-none (s.known j))

  none-same : (g : ℕ) → ((j b : ℕ) → byte_of (piece_of a) j ≡ Some b → j < g) → s.low ≤ g →
      none_known (s.low + W - g) g (knows v.window) ≡ none_known (s.low + W - g) g (next_known W s (piece_of a))
  none-same g e l = serves.misses (s.low + W - g) g l ∙ none_known-same s.known (next_known W s (piece_of a)) (s.low + W - g) g (same_after g e)

  may_stand : (g : ℕ) → ((j b : ℕ) → byte_of (piece_of a) j ≡ Some b → j < g) →
      fin_may_stand v.window.low W v.marks.fin (knows v.window) g ≡ fin_fits W s (next_known W s (piece_of a)) g
  may_stand g e =
      ap (λ l. fin_may_stand l W v.marks.fin (knows v.window) g) h.window ∙ ap (λ o. fin_may_stand s.low W o (knows v.window) g) h.fin
      ∙ elim (cases_lt g s.low) [
        | inl l ↦ let t = lt-leb s.low g l in grind (arith, nat_tests)
        | inr l ↦ ap (λ b. leb s.low g && (ltb g (window_end W s) && (none_elsewhere s.fin g && b))) (none-same g e l)
      ]

  kept_is : (o : Option ℕ) → ((g : ℕ) → o ≡ Some g → (j b : ℕ) → byte_of (piece_of a) j ≡ Some b → j < g) →
      kept_if (fin_may_stand v.window.low W v.marks.fin (knows v.window)) (fitting o) ≡ kept_fin W s (next_known W s (piece_of a)) o
  kept_is None e = refl
  kept_is (Some g) e = elim (cases_lt g 18446744073709551616) [
    | inl l ↦
        ap (kept_if (fin_may_stand v.window.low W v.marks.fin (knows v.window))) (cond-true (ltb g 18446744073709551616) (Some g) None (lt-ltb g 18446744073709551616 l))
        ∙ ap (λ b. cond b (Some g) None) (may_stand g (e g refl))
    | inr l ↦
        let n : ltb g (window_end W s) ≡ false = le-ltb g (window_end W s) (omega arith) in
        let f : fin_fits W s (next_known W s (piece_of a)) g ≡ false = grind (arith, nat_tests) in
        ap (kept_if (fin_may_stand v.window.low W v.marks.fin (knows v.window))) (cond-false (ltb g 18446744073709551616) (Some g) None (le-ltb g 18446744073709551616 l))
        ∙ sym (cond-false (fin_fits W s (next_known W s (piece_of a)) g) (Some g) None f)
  ]

  pub fin_kept : a.fin ≡ true → kept_if (fin_may_stand v.window.low W v.marks.fin (knows v.window)) (fitting (place_after a.at (length a.bytes))) ≡ fin_left W s a
  fin_kept e =
      kept_is (place_after a.at (length a.bytes)) (λ g f j b. before_end a.at a.bytes g j b f)
      ∙ ap (λ x. kept_fin W s (next_known W s (piece_of a)) (cond x (place_after a.at (length a.bytes)) None)) (sym e)

  pub fin_none : a.fin ≡ false → None ≡ fin_left W s a
  fin_none e = ap (λ x. kept_fin W s (next_known W s (piece_of a)) (cond x (place_after a.at (length a.bytes)) None)) (sym e)

  -- The outcomes

  open_outcome : s.shut ≡ false → (o : Option Found) → look ws s.text (new_text W s (piece_of a)) ≡ o → outcome W ws s a ≡ on_look (piece_left W s a) (fin_left W s a) o
  open_outcome e o f = cond-false s.shut Closed _ e ∙ ap (on_look (piece_left W s a) (fin_left W s a)) f

  pub word-outcome : s.shut ≡ false → (w : WordAt) → LookOf ws s.text (new_text W s (piece_of a)) (Err w) → outcome W ws s a ≡ Word (record { place = w.place; word = get_or ws w.word [] })
  word-outcome e w l = open_outcome e (Some (record { place = w.place; word = get_or ws w.word [] })) l.1

  module _ (e : s.shut ≡ false) (to : Reached) (l : LookOf ws s.text (new_text W s (piece_of a)) (Ok to)) (kept : Option ℕ) (ek : kept ≡ fin_left W s a) where
    clean_outcome : outcome W ws s a ≡ cond (is_empty (passed_part W s (piece_of a)) && not (is_some kept)) Empty (Passed (piece_left W s a) kept)
    clean_outcome = open_outcome e None l.0 ∙ ap (on_look' (piece_left W s a)) (sym ek)
      where
        on_look' : Piece → Option ℕ → Outcome
        on_look' p fin = on_look p fin None

    pub empty-outcome : r.start ≡ r.end → is_some kept ≡ false → outcome W ws s a ≡ Empty
    empty-outcome es ns =
        let n : passed_part W s (piece_of a) ≡ [] = length_none (passed_part W s (piece_of a)) (sym (ap length passes) ∙ length-overlay (knows v.window) r.place part ∙ long ∙ omega arith) in
        clean_outcome ∙ ap (λ t. cond (is_empty t && not (is_some kept)) Empty (Passed (piece_left W s a) kept)) n
        ∙ ap (λ b. cond (not b) Empty (Passed (piece_left W s a) kept)) ns

    pub passed-outcome : (bytes : List ℕ) → bytes ≡ overlay (knows v.window) r.place part → (r.start ≡ r.end → is_some kept ≡ true) →
        outcome W ws s a ≡ Passed (record { at = r.place; bytes = bytes }) kept
    passed-outcome bytes eb ns =
        clean_outcome ∙ cond-false (is_empty (passed_part W s (piece_of a)) && not (is_some kept)) Empty (Passed (piece_left W s a) kept) some
        ∙ ap (λ i. Passed (record { at = i; bytes = passed_part W s (piece_of a) }) kept) (sym place_is)
        ∙ ap (λ t. Passed (record { at = r.place; bytes = t }) kept) (sym (eb ∙ passes))
      where
        some : (is_empty (passed_part W s (piece_of a)) && not (is_some kept)) ≡ false
        some = elim (cases_lt r.start r.end) [
          | inl k ↦
              let n = some-length (passed_part W s (piece_of a)) (subst (λ (t : List ℕ). 0 < length t) passes (rw (length-overlay (knows v.window) r.place part, long) (omega arith))) in
              ap (λ b. b && not (is_some kept)) n
          | inr k ↦ let y : is_some kept ≡ true = ns (omega (arith, pa.ordered)) in grind (arith, nat_tests)
        ]

    -- The streams

    pub passed_shown : (v' : Value) → v'.marks ≡ record { low = v.marks.low; end = to.end; fin = option_or kept v.marks.fin; state = to.state; shut = v.marks.shut } →
        v'.window.low ≡ v.window.low → width v'.window ≡ W → ((i : ℕ) → knows v'.window i ≡ learn (piece r.place part) (knows v.window) i) →
        Shown ws (taken W (piece_of a) kept s) v'
    passed_shown v' em el ew ekn = record {
      low = ap (λ m. m.low) em ∙ h.low;
      end = ap (λ m. m.end) em ∙ l.1;
      fin = ap (λ m. m.fin) em ∙ ap (option_or kept) h.fin;
      state = ap (λ m. m.state) em ∙ l.2;
      shut = ap (λ m. m.shut) em ∙ h.shut ∙ e;
      window = el ∙ h.window;
      shows = subst (λ (w : ℕ). Shows s.low w (next_known W s (piece_of a)) (knows v'.window)) (sym ew) (record { shown = λ i. ekn i ∙ learned.shown i; beyond = learned.beyond });
    }

  pub shut_shown : (v' : Value) → v'.window ≡ v.window → v'.marks ≡ record { low = v.marks.low; end = v.marks.end; fin = v.marks.fin; state = v.marks.state; shut = true } →
      Shown ws (shut_down s) v'
  shut_shown v' ew em = record {
    low = ap (λ m. m.low) em ∙ h.low;
    end = ap (λ m. m.end) em ∙ h.end;
    fin = ap (λ m. m.fin) em ∙ h.fin;
    state = ap (λ m. m.state) em ∙ h.state;
    shut = ap (λ m. m.shut) em;
    window = rw ew h.window;
    shows = rw ew h.shows;
  }
