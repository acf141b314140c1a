-- What stays true of a stream, whatever comes.
-- Assumes nothing.
use Rattle.std.proofs.Common.{◌≡◌, ℕ, ◌+◌, ◌-◌, ◌<◌, ◌≤◌, true, ltb, leb, List, ◌++◌, length, is_some, Some, None, Option, sym, refl, ap, ◌∙◌, ⊎_elim, arith, length-append}
use Rattle.std.specs.List.{slice_get}
use Rattle.std.proofs.lemmas.Option.{slice_get-get_or}
use Rattle.std.proofs.lemmas.Bool.{cond_both, and_parts, leb-true, ltb-true, eqb-true, cases_lt}
use Rattle.automaton.specs.Text.{Text, nonempty}
use Rattle.automaton.specs.Look.{look}
use Rattle.automaton.proofs.LookLaws.{no_word_in_nil, look_law}
use Rattle.sequence.specs.declared.Place.{Place}
use Rattle.sequence.specs.declared.Place.TheVariants.{Below, At}
use Rattle.window.specs.Known.{Known, Piece, byte_of}
use Rattle.window.proofs.PieceLaws.{none-some, none_since, append_start, learn_keeps, learn-none, or_either, onwards_known, onwards_ends, none_known_lem, cut_inside}
use Rattle.stream.specs.Stream.{Stream, blank, up_to, window_end, inner, next_known, new_text, none_elsewhere, fin_fits, kept_fin, acknowledged_to, taken}
use Rattle.stream.specs.Steps.{Segment, Arrival, Arrives, Acked, piece_of, fin_at, fin_left, Outcome, outcome, after, step}
use Rattle.stream.specs.Promise.{Sound, FinFits}
use Rattle.stream.proofs.Outcomes.{Done, closed, word, empty, passes, done}

pub blank_sound : (width : ℕ) (words : List Text) → nonempty words ≡ true → Sound width words blank
blank_sound width words n =
    record {
      text_known = λ j b e. absurd (none-some refl e);
      text_ends = refl;
      clean = no_word_in_nil words n;
      low_text = omega arith;
      above = λ j l. refl;
      fin_within = λ f e. absurd (none-some refl e);
      fin_last = λ f j e l. refl;
    }

-- the text ends in the window
pub text_within : (width : ℕ) (words : List Text) (s : Stream) → Sound width words s → length s.text ≤ window_end width s
text_within width words s sound =
    ⊎_elim (λ l. absurd (none-some (sound.above _ (omega arith)) (sound.text_known _ _ (slice_get-get_or s.text (window_end width s) 0 l)))) (λ l. l)
    (cases_lt (window_end width s) (length s.text))

-- up to a known FIN and up to the window's end
up_to_lem : (fin : Option ℕ) (n j : ℕ) → j < up_to fin n → (j < n) × ((f : ℕ) → fin ≡ Some f → j < f)
up_to_lem None n j l = (l, λ f e. absurd (none-some refl e))
up_to_lem (Some h) n j l = (omega arith, λ f e. let q : h ≡ f = cc in omega arith)

module _ (width : ℕ) (s : Stream) (p : Piece) where
  -- a byte of the part inside
  pub inner-byte : (j b : ℕ) → byte_of (inner width s p) j ≡ Some b → (j < window_end width s) × ((f : ℕ) → s.fin ≡ Some f → j < f)
  inner-byte j b e = up_to_lem s.fin (window_end width s) j (cut_inside s.low (up_to s.fin (window_end width s)) p j b e).below

module _ (width : ℕ) (words : List Text) (s : Stream) (sound : Sound width words s) (p : Piece) where
  next-above : (j : ℕ) → window_end width s ≤ j → next_known width s p j ≡ None
  next-above j l =
      learn-none (inner width s p) s.known j (sound.above j l)
      (none_since _ (λ b e. let u = (inner-byte width s p j b e).0 in omega arith))

  -- no byte comes to be known at or after a known FIN
  next_fin : (f j : ℕ) → s.fin ≡ Some f → f ≤ j → next_known width s p j ≡ None
  next_fin f j e l =
      learn-none (inner width s p) s.known j (sound.fin_last f j e l)
      (none_since _ (λ b h. let u = (inner-byte width s p j b h).1 f e in omega arith))

  pub next_text_known : (j b : ℕ) → slice_get (s.text ++ new_text width s p) j ≡ Some b → next_known width s p j ≡ Some b
  next_text_known j b e =
      ⊎_elim (λ h. learn_keeps (inner width s p) s.known j b (sound.text_known j b h)) (onwards_known width (length s.text) (next_known width s p) j b)
      (append_start s.text (new_text width s p) j b e)

  next_text_ends : next_known width s p (length (s.text ++ new_text width s p)) ≡ None
  next_text_ends =
      rw length-append (⊎_elim (λ gap. gap) (λ full. next-above _ (omega (arith, sound.low_text)))
      (onwards_ends width (length s.text) (next_known width s p)))

-- the FIN that is kept
fits_so : (width : ℕ) (s : Stream) (known : Known) (f : ℕ) → fin_fits width s known f ≡ true →
    (s.low ≤ f) × (f < window_end width s) × (none_elsewhere s.fin f ≡ true) × ((j : ℕ) → f ≤ j → j < s.low + width → known j ≡ None)
fits_so width s known f e =
    let a = and_parts (leb s.low f) _ e in
    let b = and_parts (ltb f (window_end width s)) _ a.1 in
    let d = and_parts (none_elsewhere s.fin f) _ b.1 in
    let l = leb-true _ _ a.0 in
    let u = ltb-true _ _ b.0 in
    (l, u, d.0, λ j m n. none_known_lem (s.low + width - f) f known d.1 j m (omega arith))

none_other : (fin : Option ℕ) (f : ℕ) → none_elsewhere fin f ≡ true → (h : ℕ) → fin ≡ Some h → h ≡ f
none_other None f e h q = absurd (none-some refl q)
none_other (Some g) f e h q = let p : g ≡ f = eqb-true g f e in cc

-- a FIN that is kept is the segment's
pub left_at : (width : ℕ) (s : Stream) (a : Segment) (f : ℕ) → fin_left width s a ≡ Some f → fin_at a ≡ Some f
left_at width s a f = go (fin_at a)
  where
    go : (x : Option ℕ) → kept_fin width s (next_known width s (piece_of a)) x ≡ Some f → x ≡ Some f
    go None = λ e. e
    go (Some h) = cond_both (fin_fits width s (next_known width s (piece_of a)) h) (Some h) None (λ x. x ≡ Some f → Some h ≡ Some f) (λ _ e. e) (λ _ e. absurd (none-some refl e))

module _ (width : ℕ) (words : List Text) (s : Stream) (sound : Sound width words s) (a : Segment) where
  -- a FIN that is kept stands where it may
  pub left_fits : (f : ℕ) → fin_left width s a ≡ Some f → FinFits width s a f
  left_fits f = go (fin_at a) refl
    where
      go : (x : Option ℕ) → fin_at a ≡ x → kept_fin width s (next_known width s (piece_of a)) x ≡ Some f → FinFits width s a f
      go None at = λ e. absurd (none-some refl e)
      go (Some h) at =
          cond_both (fin_fits width s (next_known width s (piece_of a)) h) (Some h) None (λ x. x ≡ Some f → FinFits width s a f)
          (λ t e.
          let is : h ≡ f = cc in
          let so = fits_so width s (next_known width s (piece_of a)) h t in
          record {
            there = at ∙ e;
            above = omega (arith, so.0);
            below = omega (arith, so.1);
            no_other = λ g q. none_other s.fin h so.2 g q ∙ is;
            last = λ j l. ⊎_elim (λ in_window. so.3 j (omega arith) in_window) (λ past. next-above width words s sound (piece_of a) j (omega arith)) (cases_lt j (s.low + width));
          })
          (λ _ e. absurd (none-some refl e))

  taken_sound : look words s.text (new_text width s (piece_of a)) ≡ None → Sound width words (taken width (piece_of a) (fin_left width s a) s)
  taken_sound clean =
      record {
        text_known = next_text_known width words s sound (piece_of a);
        text_ends = next_text_ends width words s sound (piece_of a);
        clean = sym (look_law.tells words s.text (new_text width s (piece_of a)) sound.clean) ∙ ap is_some clean;
        low_text = simp length-append (omega (arith, sound.low_text));
        above = next-above width words s sound (piece_of a);
        fin_within = λ f e. ⊎_elim (λ new. (left_fits f new).below) (sound.fin_within f) (or_either (fin_left width s a) s.fin f e);
        fin_last = λ f j e l. ⊎_elim (λ new. (left_fits f new).last j l) (λ old. next_fin width words s sound (piece_of a) f j old l) (or_either (fin_left width s a) s.fin f e);
      }

  after_sound : (o : Outcome) → Done width words s a o → Sound width words (after width s a o)
  after_sound _ (closed shut) = sound
  after_sound _ (word up found e) =
      record { text_known = sound.text_known; text_ends = sound.text_ends; clean = sound.clean; low_text = sound.low_text; above = sound.above; fin_within = sound.fin_within; fin_last = sound.fin_last }
  after_sound _ (empty up e none nofin) = sound
  after_sound _ (passes up e) = taken_sound e

-- an acknowledged place moves low, and nothing else
acked_sound : (width : ℕ) (words : List Text) (s : Stream) → Sound width words s → (i : Place) → Sound width words (acknowledged_to i s)
acked_sound width words s sound (Below n) = sound
acked_sound width words s sound (At i) =
    record {
      text_known = sound.text_known;
      text_ends = sound.text_ends;
      clean = sound.clean;
      low_text = omega (arith, sound.low_text);
      above = λ j l. sound.above j (omega arith);
      fin_within = λ f e. omega (arith, sound.fin_within f e);
      fin_last = sound.fin_last;
    }

-- a stream stays sound
pub step_sound : (width : ℕ) (words : List Text) (s : Stream) → Sound width words s → (a : Arrival) → Sound width words (step width words s a)
step_sound width words s sound (Arrives a) = after_sound width words s sound a (outcome width words s a) (done width words s a)
step_sound width words s sound (Acked i) = cond_both s.shut s (acknowledged_to i s) (Sound width words) (λ _. sound) (λ _. acked_sound width words s sound i)
