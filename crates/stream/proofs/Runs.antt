-- A stream over all that comes to it.
-- Assumes nothing.
use Rattle.std.proofs.Common.{◌≡◌, ℕ, ◌≤◌, true, false, List, [], ◌∷◌, ◌++◌, length, drop, Some, sym, refl, ap, ◌∙◌, subst, ⊎_elim, append_assoc}
use mathlib.Core.List.Memᴰ
use mathlib.Core.List.{Memᴰ}
use Rattle.std.specs.List.{slice_get}
use Rattle.std.proofs.lemmas.Option.{slice_get-get_or}
use Rattle.std.proofs.lemmas.Bool.{both_ways, cases_Bool, cases_lt}
use Rattle.std.specs.Option.{option_or}
use Rattle.automaton.specs.Text.{Text}
use Rattle.window.specs.Known.{Piece, byte_of}
use Rattle.window.proofs.PieceLaws.{none-some, Extends, start_from, from_same, overlay_known}
use Rattle.stream.specs.Stream.{Stream, inner}
use Rattle.stream.specs.Steps.{Segment, Arrival, Arrives, Acked, piece_of, piece_left, Outcome, outcome, after, step, pieces_of, fins_of, passed_by, fins_by, run, passed, fins}
use Rattle.stream.specs.Promise.{FirstPart, Sound, ShutFor}
use Rattle.stream.proofs.Outcomes.{Done, closed, word, empty, passes, done}
use Rattle.stream.proofs.Sound.{step_sound}
use Rattle.stream.proofs.Next.{in_piece, done_fins, acked_cases, next}

module _ (width : ℕ) (words : List Text) where
  -- what goes out is known then
  done_known : (s : Stream) (a : Segment) (o : Outcome) → Done width words s a o → (q : Piece) → Memᴰ q (pieces_of o) → Extends (after width s a o).known (byte_of q)
  done_known s a _ (closed shut) q m = absurd (Memᴰ.not-nil m)
  done_known s a _ (word u found l) q m = absurd (Memᴰ.not-nil m)
  done_known s a _ (empty u l none nofin) q m = absurd (Memᴰ.not-nil m)
  done_known s a _ (passes u l) q m = λ j b e.
      overlay_known s.known (inner width s (piece_of a)).at (inner width s (piece_of a)).bytes j b
      (subst (λ (x : Piece). byte_of x j ≡ Some b) (in_piece (piece_left width s a).bytes (piece_left width s a) q m).0 e)

  done_finned : (s : Stream) (a : Segment) (o : Outcome) → Done width words s a o → (f : ℕ) → Memᴰ f (fins_of o) → (after width s a o).fin ≡ Some f
  done_finned s a _ (closed shut) f m = absurd (Memᴰ.not-nil m)
  done_finned s a _ (word u found l) f m = absurd (Memᴰ.not-nil m)
  done_finned s a _ (empty u l none nofin) f m = absurd (Memᴰ.not-nil m)
  done_finned s a _ (passes u l) f m = ap (λ x. option_or x s.fin) (done_fins width words s a _ (passes u l) f m)

  step_known : (s : Stream) (a : Arrival) (q : Piece) → Memᴰ q (passed_by width words s a) → Extends (step width words s a).known (byte_of q)
  step_known s (Arrives a) q m = done_known s a (outcome width words s a) (done width words s a) q m
  step_known s (Acked i) q m = absurd (Memᴰ.not-nil m)

  step_finned : (s : Stream) (a : Arrival) (f : ℕ) → Memᴰ f (fins_by width words s a) → (step width words s a).fin ≡ Some f
  step_finned s (Arrives a) f m = done_finned s a (outcome width words s a) (done width words s a) f m
  step_finned s (Acked i) f m = absurd (Memᴰ.not-nil m)

  -- arrivals, and more after them
  pub run-append : (s : Stream) (before more : List Arrival) → run width words s (before ++ more) ≡ run width words (run width words s before) more
  unfolding run
  run-append s [] more = refl
  run-append s (a ∷ before) more = run-append (step width words s a) before more

  pub passed-append : (s : Stream) (before more : List Arrival) →
      passed width words s (before ++ more) ≡ passed width words s before ++ passed width words (run width words s before) more
  unfolding run passed
  passed-append s [] more = refl
  passed-append s (a ∷ before) more =
      ap (λ x. passed_by width words s a ++ x) (passed-append (step width words s a) before more) ∙ sym (append_assoc (passed_by width words s a) _ _)

  pub fins-append : (s : Stream) (before more : List Arrival) →
      fins width words s (before ++ more) ≡ fins width words s before ++ fins width words (run width words s before) more
  unfolding run fins
  fins-append s [] more = refl
  fins-append s (a ∷ before) more =
      ap (λ x. fins_by width words s a ++ x) (fins-append (step width words s a) before more) ∙ sym (append_assoc (fins_by width words s a) _ _)

  pub run_sound : (s : Stream) (arrivals : List Arrival) → Sound width words s → Sound width words (run width words s arrivals)
  unfolding run
  run_sound s [] sound = sound
  run_sound s (a ∷ rest) sound = run_sound (step width words s a) rest (step_sound width words s sound a)

  run_keeps : (s : Stream) (arrivals : List Arrival) → Sound width words s → Extends (run width words s arrivals).known s.known
  unfolding run
  run_keeps s [] sound j b e = e
  run_keeps s (a ∷ rest) sound j b e = run_keeps (step width words s a) rest (step_sound width words s sound a) j b ((next width words s sound).keeps a j b e)

  run_fin : (s : Stream) (arrivals : List Arrival) → Sound width words s → (f : ℕ) → s.fin ≡ Some f → (run width words s arrivals).fin ≡ Some f
  unfolding run
  run_fin s [] sound f e = e
  run_fin s (a ∷ rest) sound f e = run_fin (step width words s a) rest (step_sound width words s sound a) f ((next width words s sound).keeps_fin a f e)

  -- all that went out is known in the end
  pub passed_known : (s : Stream) (arrivals : List Arrival) → Sound width words s → (q : Piece) → Memᴰ q (passed width words s arrivals) →
      Extends (run width words s arrivals).known (byte_of q)
  unfolding run passed
  passed_known s [] sound q m = absurd (Memᴰ.not-nil m)
  passed_known s (a ∷ rest) sound q m =
      ⊎_elim (λ now j b e. run_keeps (step width words s a) rest (step_sound width words s sound a) j b (step_known s a q now j b e))
      (passed_known (step width words s a) rest (step_sound width words s sound a) q)
      (Memᴰ.append_cases (passed_by width words s a) m)

  pub fins_known : (s : Stream) (arrivals : List Arrival) → Sound width words s → (f : ℕ) → Memᴰ f (fins width words s arrivals) → (run width words s arrivals).fin ≡ Some f
  unfolding run fins
  fins_known s [] sound f m = absurd (Memᴰ.not-nil m)
  fins_known s (a ∷ rest) sound f m =
      ⊎_elim (λ now. run_fin (step width words s a) rest (step_sound width words s sound a) f (step_finned s a f now))
      (fins_known (step width words s a) rest (step_sound width words s sound a) f)
      (Memᴰ.append_cases (fins_by width words s a) m)

  -- a text of which each byte is known is a first part of the text
  pub known_first : (s : Stream) → Sound width words s → (t : Text) → ((j b : ℕ) → slice_get t j ≡ Some b → s.known j ≡ Some b) → FirstPart t s.text
  known_first s sound t h =
      (drop (length t) s.text, from_same s.known 0 t s.text (λ j b e. h j b (start_from t j b e)) (λ j b e. sound.text_known j b (start_from s.text j b e)) long)
    where
      long : length t ≤ length s.text
      long =
          ⊎_elim (λ l. absurd (none-some sound.text_ends (h (length s.text) _ (slice_get-get_or t (length s.text) 0 l)))) (λ l. l)
          (cases_lt (length s.text) (length t))

  -- a shut stream stays as it is
  pub run_stays : (s : Stream) (arrivals : List Arrival) → Sound width words s → s.shut ≡ true → run width words s arrivals ≡ s
  unfolding run
  run_stays s [] sound h = refl
  run_stays s (a ∷ rest) sound h =
      let same : step width words s a ≡ s = ((next width words s sound).stays h a).0 in
      subst (λ (t : Stream). run width words t rest ≡ s) (sym same) (run_stays s rest sound h)

  -- an arrival with which the stream is shut is a segment
  shut_here : (s : Stream) (a : Arrival) (rest : List Arrival) → Sound width words s → s.shut ≡ false → (step width words s a).shut ≡ true → ShutFor width words s (a ∷ rest)
  unfolding run
  shut_here s (Acked i) rest sound up h = absurd (both_ways _ (acked_cases width words s (λ (t : Stream). t.shut ≡ false) i up (λ _. up)) h)
  shut_here s (Arrives a) rest sound up h =
      let w = (next width words s sound).shuts a up h in
      record {
        before = [];
        segment = a;
        rest = rest;
        splits = refl;
        was_open = up;
        same =
            ap (λ (t : Stream). t.text) (run_stays (step width words s (Arrives a)) rest (step_sound width words s sound (Arrives a)) h) ∙
            ap (λ (o : Outcome). (after width s a o).text) w.is;
        word = w;
      }

  shut_later : (s : Stream) (a : Arrival) (rest : List Arrival) → ShutFor width words (step width words s a) rest → ShutFor width words s (a ∷ rest)
  unfolding run
  shut_later s a rest r =
      record { before = a ∷ r.before; segment = r.segment; rest = r.rest; splits = ap (λ x. a ∷ x) r.splits; was_open = r.was_open; same = r.same; word = r.word }

  pub run_shuts : (s : Stream) (arrivals : List Arrival) → Sound width words s → s.shut ≡ false → (run width words s arrivals).shut ≡ true → ShutFor width words s arrivals
  unfolding run
  run_shuts s [] sound up h = absurd (both_ways _ up h)
  run_shuts s (a ∷ rest) sound up h =
      ⊎_elim (shut_here s a rest sound up) (λ still. shut_later s a rest (run_shuts (step width words s a) rest (step_sound width words s sound a) still h))
      (cases_Bool (step width words s a).shut)
