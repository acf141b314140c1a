-- A stream from its beginning on, as a run of what came to it.
-- Assumes nothing.
use Rattle.std.proofs.Common.{◌≡◌, ℕ, ◌≤◌, true, false, List, [], ◌∷◌, ◌++◌, Some, None, Option, sym, refl, ap, ◌∙◌, subst, ap₂, ⊎_elim, arith}
use mathlib.Core.List.Memᴰ
use Rattle.std.proofs.lemmas.List.{append-nil}
use Rattle.std.proofs.lemmas.Bool.{both_ways, cases_Bool}
use Rattle.automaton.specs.Text.{Text}
use Rattle.packet.specs.Bytes.{Bytes}
use Rattle.packet.specs.Packet.{Packet}
use Rattle.window.proofs.PieceLaws.{none-some}
use Rattle.stream.specs.Stream.{Stream}
use Rattle.stream.specs.Steps.{Segment, Arrival, Arrives, Acked, Outcome, after, step}
use Rattle.stream.specs.Steps as steps
use Rattle.stream.specs.Promise.{Sound, Source, Agrees}
use Rattle.stream.specs.Promise as one_stream
use Rattle.stream.proofs.Next as following
use Rattle.stream.proofs.Runs.{run-append, passed-append, fins-append, run_sound, run_stays}
use Rattle.stream.proofs.Honest.{FromSource, run_from, goes_out_lem}
use Rattle.filter.specs.Config.{Config, Key}
use Rattle.filter.specs.declared.side.Side.TheVariants.{Outside, Looms}
use Rattle.filter.specs.Gate.{Connection, closed, Gate, among, put}
use Rattle.filter.specs.Verdict.{Event, Comes, Verdict, apply, Out, answer_of, to_looms}
use Rattle.filter.specs.Decide.{segment_at, acked_at, verdict, next, answer, run}
use Rattle.filter.specs.Promise.{Goes, Each, Sometime, here, later, Stays, stream_of, segment_of, ack_of, arrival, arrives, arrivals, passed_by, finished_by, passed, finished, WordCame, PassedOn, Honest, GoesOut}
use Rattle.filter.proofs.Keys.{put_same}
use Rattle.filter.proofs.Decided
use Rattle.filter.proofs.Decided.{Decided, decided, sender_of}
use Rattle.filter.proofs.Counts.{segment-some, segment_came}
use Rattle.filter.proofs.Follows.{Follows, follows}

some_same : {p q : Packet} → ◌≡◌ {A = Option Packet} (Some p) (Some q) → p ≡ q
some_same e = cc

-- the stream and all that went out are those of a run of the stream's own steps
pub record Runs (c : Config) (k : Key) (g : Gate) (es : List Event) : Type 0 where
  pub stream : stream_of k (run c g es) ≡ steps.run c.width c.words (stream_of k g) (arrivals c k g es)
  pub pieces : passed c k g es ≡ steps.passed c.width c.words (stream_of k g) (arrivals c k g es)
  pub fins : finished c k g es ≡ steps.fins c.width c.words (stream_of k g) (arrivals c k g es)

-- what a segment does, and what an acknowledged place or nothing does
pub record Segments (c : Config) (k : Key) (g : Gate) (e : Event) (a : Segment) : Type 0 where
  pub stream : stream_of k (next c g e) ≡ step c.width c.words (stream_of k g) (Arrives a)
  pub pieces : passed_by c k g e ≡ steps.passed_by c.width c.words (stream_of k g) (Arrives a)
  pub fins : finished_by c k g e ≡ steps.fins_by c.width c.words (stream_of k g) (Arrives a)

pub record Others (c : Config) (k : Key) (g : Gate) (e : Event) : Type 0 where
  pub shut : (stream_of k (next c g e)).shut ≡ (stream_of k g).shut
  pub pieces : passed_by c k g e ≡ []
  pub fins : finished_by c k g e ≡ []

module _ (c : Config) (small : c.width ≤ 65536) (k : Key) where
  -- the stream stays sound
  next_sound : (g : Gate) (e : Event) → Follows c k g e (stream_of k (next c g e)) (to_looms (answer c g e)) → Sound c.width c.words (stream_of k g) →
      Sound c.width c.words (stream_of k (next c g e))
  next_sound g e f sound = subst (Sound c.width c.words) (sym f.stream) (run_sound c.width c.words (stream_of k g) (arrives k (g.connection k) e) sound)

  segment-step : (g : Gate) (e : Event) → Follows c k g e (stream_of k (next c g e)) (to_looms (answer c g e)) → (p : Packet) → segment_of k e ≡ Some p →
      Segments c k g e (segment_at (g.connection k) p)
  unfolding steps.run steps.passed steps.fins
  segment-step g e f p came =
      let one : arrives k (g.connection k) e ≡ Arrives (segment_at (g.connection k) p) ∷ [] = ap (λ x. arrival (g.connection k) x (ack_of k e)) came in
      record {
        stream = f.stream ∙ ap (λ l. steps.run c.width c.words (stream_of k g) l) one;
        pieces = f.pieces ∙ (ap (λ l. steps.passed c.width c.words (stream_of k g) l) one ∙ append-nil _);
        fins = f.fins ∙ (ap (λ l. steps.fins c.width c.words (stream_of k g) l) one ∙ append-nil _);
      }

  other_step : (g : Gate) (e : Event) → Follows c k g e (stream_of k (next c g e)) (to_looms (answer c g e)) → segment_of k e ≡ None → Others c k g e
  unfolding steps.run steps.passed steps.fins
  other_step g e f without = go (ack_of k e) (ap (λ x. arrival (g.connection k) x (ack_of k e)) without)
    where
      go : (x : Option Packet) → arrives k (g.connection k) e ≡ arrival (g.connection k) None x → Others c k g e
      go (Some p) is =
          record {
            shut =
                ap (λ (t : Stream). t.shut) (f.stream ∙ ap (λ l. steps.run c.width c.words (stream_of k g) l) is) ∙
                following.acked_cases c.width c.words (stream_of k g) (λ (t : Stream). t.shut ≡ (stream_of k g).shut) (acked_at (g.connection k) p) refl (λ _. refl);
            pieces = f.pieces ∙ ap (λ l. steps.passed c.width c.words (stream_of k g) l) is;
            fins = f.fins ∙ ap (λ l. steps.fins c.width c.words (stream_of k g) l) is;
          }
      go None is =
          record {
            shut = ap (λ (t : Stream). t.shut) (f.stream ∙ ap (λ l. steps.run c.width c.words (stream_of k g) l) is);
            pieces = f.pieces ∙ ap (λ l. steps.passed c.width c.words (stream_of k g) l) is;
            fins = f.fins ∙ ap (λ l. steps.fins c.width c.words (stream_of k g) l) is;
          }

  -- over all events

  abbrev Sounds : Gate → Type 0
  Sounds g = Sound c.width c.words (stream_of k g)

  -- what holds of each event to a sound stream that is held holds of each of the run
  pub each : (P : Gate → Event → Type 0) → ((g : Gate) (e : Event) → among k g.keys ≡ true → Goes c k g e → Sounds g → P g e) →
      (g : Gate) (es : List Event) → among k g.keys ≡ true → Stays c k g es → Sounds g → Each c P g es
  each P h g [] held t sound = tt
  each P h g (e ∷ es) held t sound =
      (h g e held t.0 sound, each P h (next c g e) es t.0.held t.1 (next_sound g e (follows c small g k e held t.0 sound) sound))

  pub runs : (g : Gate) (es : List Event) → among k g.keys ≡ true → Stays c k g es → Sounds g → Runs c k g es
  unfolding run passed finished arrivals steps.run steps.passed steps.fins
  runs g [] held t sound = record { stream = refl; pieces = refl; fins = refl }
  runs g (e ∷ es) held t sound =
      let f = follows c small g k e held t.0 sound in
      let came : List Arrival = arrives k (g.connection k) e in
      let more : List Arrival = arrivals c k (next c g e) es in
      let r = runs (next c g e) es t.0.held t.1 (next_sound g e f sound) in
      record {
        stream = r.stream ∙ (ap (λ s. steps.run c.width c.words s more) f.stream ∙ sym (run-append c.width c.words (stream_of k g) came more));
        pieces =
            ap₂ (λ x y. x ++ y) f.pieces (r.pieces ∙ ap (λ s. steps.passed c.width c.words s more) f.stream) ∙
            sym (passed-append c.width c.words (stream_of k g) came more);
        fins =
            ap₂ (λ x y. x ++ y) f.fins (r.fins ∙ ap (λ s. steps.fins c.width c.words s more) f.stream) ∙
            sym (fins-append c.width c.words (stream_of k g) came more);
      }

  -- a segment of an open stream with an acknowledged number is not refused, unless the stream is shut then
  ack_out : (g : Gate) → among k g.keys ≡ true → (e : Event) (v : Verdict) → Decided c g e v → (q : Packet) → segment_of k e ≡ Some q → q.ack ≡ true →
      (stream_of k g).shut ≡ false → (stream_of k (apply v g)).shut ≡ false → (out : Bytes) × (answer_of v ≡ Out Looms out)
  ack_out g held _ _ (Decided.refuses side p n l why) q came ack up still = absurd (idle (why k held))
    where
      idle : Decided.Idle c g (Comes side p) k → ⊥
      idle (Decided.idle_none none) = segment-some c g k (Comes side p) q none came
      idle (Decided.idle_shut shut) = both_ways _ up shut
      idle (Decided.idle_empty r s is without) = let same : r ≡ q = some_same (sym s ∙ came) in both_ways _ without (rw same ack)
  ack_out g held _ _ (Decided.elapses n) q came ack up still = absurd (none-some refl came)
  ack_out g held _ _ (Decided.opening p r new n m alone) q came ack up still = absurd (segment-some c g k (Comes Outside p) q (n k held) came)
  ack_out g held _ _ (Decided.bare p out r w n t x m) q came ack up still = (out, refl)
  ack_out g held _ _ (Decided.takes p w is) q came ack up still = (_, refl)
  ack_out g held _ _ (Decided.acks_only p w is m) q came ack up still = (_, refl)
  ack_out g held _ _ (Decided.shuts p w found is) q came ack up still =
      let both = segment_came k p q w.reads came in
      absurd (both_ways _ still (subst (λ (x : Key). (stream_of x (put (sender_of p) (closed (g.connection (sender_of p))) g)).shut ≡ true) (sym both.0)
      (ap (λ (t : Connection). t.stream.shut) (put_same (sender_of p) (closed (g.connection (sender_of p))) g))))
  ack_out g held _ _ (Decided.replies p out r new n t x) q came ack up still = absurd (none-some refl came)
  ack_out g held _ _ (Decided.again p r w n) q came ack up still = absurd (none-some refl came)
  ack_out g held _ _ (Decided.acks p r w own t x) q came ack up still = absurd (none-some refl came)
  ack_out g held _ _ (Decided.begins p w n) q came ack up still = absurd (none-some refl came)
  ack_out g held _ _ (Decided.ends p out r w rst n t x) q came ack up still = absurd (none-some refl came)

  -- of each segment goes out what is promised for one stream
  pub passed_on_lem : (g : Gate) (e : Event) → among k g.keys ≡ true → Goes c k g e → Sounds g → PassedOn c k g e
  passed_on_lem g e held goes sound =
      record {
        segment = λ p came. let d = segment-step g e f p came in
            rw (d.stream, d.pieces, d.fins) ((following.next c.width c.words (stream_of k g) sound).passed_on (segment_at (g.connection k) p));
        other = λ without. let d = other_step g e f without in (d.pieces, d.fins);
        ack = λ p came ack up still. ack_out g held e (verdict c g e) (decided c g e) p came ack up still;
      }
    where
      f : Follows c k g e (stream_of k (next c g e)) (to_looms (answer c g e))
      f = follows c small g k e held goes sound

  -- nothing but an acknowledged place moves low
  pub next_low : (g : Gate) (e : Event) → among k g.keys ≡ true → Goes c k g e → Sounds g → ack_of k e ≡ None → (stream_of k (next c g e)).low ≡ (stream_of k g).low
  unfolding steps.run
  next_low g e held goes sound without = go (segment_of k e) refl
    where
      f : Follows c k g e (stream_of k (next c g e)) (to_looms (answer c g e))
      f = follows c small g k e held goes sound

      go : (x : Option Packet) → segment_of k e ≡ x → (stream_of k (next c g e)).low ≡ (stream_of k g).low
      go (Some p) came =
          ap (λ (t : Stream). t.low) (segment-step g e f p came).stream ∙ (following.next c.width c.words (stream_of k g) sound).low (segment_at (g.connection k) p)
      go None came =
          ap (λ (t : Stream). t.low) (f.stream ∙ ap₂ (λ x y. steps.run c.width c.words (stream_of k g) (arrival (g.connection k) x y)) came without)

  -- a stream that an event shuts was open, and with the event's segment its text would have got a word
  shuts_here : (g : Gate) (e : Event) → among k g.keys ≡ true → Goes c k g e → Sounds g → (stream_of k g).shut ≡ false → (stream_of k (next c g e)).shut ≡ true →
      WordCame c k (stream_of k (next c g e)).text g e
  shuts_here g e held goes sound up shut = go (segment_of k e) refl
    where
      f : Follows c k g e (stream_of k (next c g e)) (to_looms (answer c g e))
      f = follows c small g k e held goes sound

      go : (x : Option Packet) → segment_of k e ≡ x → WordCame c k (stream_of k (next c g e)).text g e
      go None without = absurd (both_ways _ ((other_step g e f without).shut ∙ up) shut)
      go (Some p) came =
          let d = segment-step g e f p came in
          let w = (following.next c.width c.words (stream_of k g) sound).shuts (segment_at (g.connection k) p) up (sym (ap (λ (t : Stream). t.shut) d.stream) ∙ shut) in
          record {
            segment = p;
            came = came;
            was_open = up;
            same = sym (ap (λ (t : Stream). t.text) d.stream ∙ ap (λ (o : Outcome). (after c.width (stream_of k g) (segment_at (g.connection k) p) o).text) w.is);
            word = w;
          }

  pub run_shuts : (g : Gate) (es : List Event) → among k g.keys ≡ true → Stays c k g es → Sounds g → (stream_of k g).shut ≡ false → (stream_of k (run c g es)).shut ≡ true →
      Sometime c (WordCame c k (stream_of k (run c g es)).text) g es
  unfolding run
  run_shuts g [] held t sound up h = absurd (both_ways _ up h)
  run_shuts g (e ∷ es) held t sound up h =
      let then-sound = next_sound g e (follows c small g k e held t.0 sound) sound in
      ⊎_elim
      (λ shut.
      let still : stream_of k (run c (next c g e) es) ≡ stream_of k (next c g e) =
      (runs (next c g e) es t.0.held t.1 then-sound).stream ∙ run_stays c.width c.words (stream_of k (next c g e)) (arrivals c k (next c g e) es) then-sound shut in
      here (subst (λ (x : Text). WordCame c k x g e) (sym (ap (λ (s : Stream). s.text) still)) (shuts_here g e held t.0 sound up shut)))
      (λ still. later (run_shuts (next c g e) es t.0.held t.1 then-sound still h))
      (cases_Bool (stream_of k (next c g e)).shut)

  -- from an honest sender

  module _ (source : Source) where
    -- what an honest sender's event brings agrees with the source
    arrival_agrees : (s : Connection) (x y : Option Packet) → ((p : Packet) → x ≡ Some p → Agrees source (segment_at s p)) → one_stream.Honest source (arrival s x y)
    arrival_agrees s (Some p) y h a m = go (Memᴰ.eq_of_singleton m)
      where
        go : Arrives a ≡ Arrives (segment_at s p) → Agrees source a
        go e = let is : a ≡ segment_at s p = cc in rw is (h p refl)
    arrival_agrees s None (Some p) h a m = absurd (arrives-not_acked (Memᴰ.eq_of_singleton m))
      where
        arrives-not_acked : {b : Segment} → Arrives b ≡ Acked (acked_at s p) → ⊥
        arrives-not_acked e = let z : ◌≡◌ {A = ℕ} 0 1 = cc in omega arith
    arrival_agrees s None None h a m = absurd (Memᴰ.not-nil m)

    pub run_agrees : (g : Gate) (es : List Event) → Honest c k source g es → one_stream.Honest source (arrivals c k g es)
    unfolding arrivals
    run_agrees g [] h a m = absurd (Memᴰ.not-nil m)
    run_agrees g (e ∷ es) h a m =
        ⊎_elim (arrival_agrees (g.connection k) (segment_of k e) (ack_of k e) h.0 a) (run_agrees (next c g e) es h.1 a)
        (Memᴰ.append_cases (arrives k (g.connection k) e) m)

    pub run_goes_out : (g : Gate) (es : List Event) → among k g.keys ≡ true → Stays c k g es → Honest c k source g es → Sounds g → FromSource source (stream_of k g) →
        Each c (GoesOut c k) g es
    run_goes_out g [] held t h sound from = tt
    run_goes_out g (e ∷ es) held t h sound from =
        let f = follows c small g k e held t.0 sound in
        let then-from : FromSource source (stream_of k (next c g e)) = subst (FromSource source) (sym f.stream)
        (run_from c.width c.words source (stream_of k g) (arrives k (g.connection k) e) sound from (arrival_agrees (g.connection k) (segment_of k e) (ack_of k e) h.0)) in (
          (λ p came. let d = segment-step g e f p came in
              rw (d.stream, d.pieces, d.fins) (goes_out_lem c.width c.words source (stream_of k g) sound from (segment_at (g.connection k) p) (h.0 p came))),
          run_goes_out (next c g e) es t.0.held t.1 h.1 (next_sound g e f sound) then-from,
        )
