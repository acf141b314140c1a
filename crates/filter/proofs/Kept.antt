-- The promise of the whole.
-- Assumes nothing.
use Rattle.std.proofs.Common.{◌≡◌, ℕ, true, List, Some, None, sym, refl, ap, ◌∙◌, subst}
use Rattle.std.proofs.lemmas.Bool.{cond_both}
use Rattle.window.specs.Known.{Piece}
use Rattle.window.proofs.PieceLaws.{none-some}
use Rattle.stream.specs.Stream.{Stream, blank}
use Rattle.stream.specs.Steps as steps
use Rattle.stream.specs.Promise.{Sound, OneText, Source}
use Rattle.stream.specs.Promise as one_stream
use Rattle.stream.proofs.Sound.{blank_sound}
use Rattle.stream.proofs.Honest.{blank_from}
use Rattle.stream.proofs.Kept.{promise}
use Rattle.filter.specs.Config.{Config, Key}
use Rattle.filter.specs.Gate.{Connection, Gate, among, find, empty}
use Rattle.filter.specs.Verdict.{Event}
use Rattle.filter.specs.Decide.{next, run}
use Rattle.filter.specs.Promise.{Fit, Goes, Stays, stream_of, arrivals, passed, finished, Kept, PassedOn, Acknowledges, Counts, Honest, Unharmed, Promise}
use Rattle.filter.proofs.Runs.{Runs, runs, each, next_low, passed_on_lem, run_shuts, run_agrees, run_goes_out}
use Rattle.filter.proofs.Acks.{acked}
use Rattle.filter.proofs.Counts.{counts}
use Rattle.filter.proofs.Few.{run_few, run-distinct}
use Rattle.filter.proofs.Handled.{begins_so, unbegun, handled}
use Rattle.filter.proofs.Passes.{syn_passes, reply_passes, loom_passes, sender_resets_lem, loom_resets_lem}

found_parts : (k : Key) (g : Gate) (s : Connection) → find k g ≡ Some s → (among k g.keys ≡ true) × (g.connection k ≡ s)
found_parts k g s =
    cond_both (among k g.keys) (Some (g.connection k)) None (λ x. x ≡ Some s → (among k g.keys ≡ true) × (g.connection k ≡ s))
    (λ held e. let is : g.connection k ≡ s = cc in (held, is)) (λ _ e. absurd (none-some refl e))

module _ (c : Config) (fit : Fit c) (k : Key) (g : Gate) (held : among k g.keys ≡ true) (is_blank : stream_of k g ≡ blank) (after : List Event) (stays : Stays c k g after) where
  sound : Sound c.width c.words (stream_of k g)
  sound = rw is_blank (blank_sound c.width c.words fit.words)

  r : Runs c k g after
  r = runs c fit.width k g after held stays sound

  one : one_stream.Kept c.width c.words (arrivals c k g after)
  one = promise c.width c.words fit.words (arrivals c k g after)

  abbrev came : List steps.Arrival
  came = arrivals c k g after

  is_run_lem : stream_of k (run c g after) ≡ steps.run c.width c.words blank came
  is_run_lem = r.stream ∙ ap (λ s. steps.run c.width c.words s came) is_blank

  -- what holds of a run of the stream's steps holds of the stream and of what went out
  along : (P : Stream → List Piece → List ℕ → Type 0) → P (steps.run c.width c.words blank came) (steps.passed c.width c.words blank came) (steps.fins c.width c.words blank came) →
      P (stream_of k (run c g after)) (passed c k g after) (finished c k g after)
  along P h =
      subst (λ (s : Stream). P s (passed c k g after) (finished c k g after)) (sym is_run_lem)
      (subst (λ (ps : List Piece). P (steps.run c.width c.words blank came) ps (finished c k g after)) (sym (r.pieces ∙ ap (λ s. steps.passed c.width c.words s came) is_blank))
      (subst (λ (fs : List ℕ). P (steps.run c.width c.words blank came) (steps.passed c.width c.words blank came) fs) (sym (r.fins ∙ ap (λ s. steps.fins c.width c.words s came) is_blank)) h))

  acknowledges : (h : Gate) (e : Event) → among k h.keys ≡ true → Goes c k h e → Sound c.width c.words (stream_of k h) → Acknowledges c k h e
  acknowledges h e there goes fine =
      record { acked = λ p came up. acked c h k fit.width fine e p came (record { held = there; not_shut = up }); stays = next_low c fit.width k h e there goes fine }

  honest : (source : Source) → Honest c k source g after → Unharmed c k source g after
  honest source h =
      record {
        unchanged = along (one_stream.Unharmed c.words source) (one.honest source (run_agrees c fit.width k source g after h));
        goes_out = run_goes_out c fit.width k source g after held stays h sound (rw is_blank (blank_from source));
      }

  kept : Kept c k g after
  kept =
      record {
        is_run = is_run_lem;
        one_text = along (λ s ps fs. OneText c.words s.text ps fs) one.one_text;
        sound = subst (Sound c.width c.words) (sym is_run_lem) one.sound;
        shuts = run_shuts c fit.width k g after held stays sound (rw is_blank refl);
        passed_on = each c fit.width k (PassedOn c k) (passed_on_lem c fit.width k) g after held stays sound;
        acknowledges = each c fit.width k (Acknowledges c k) acknowledges g after held stays sound;
        counts = each c fit.width k (Counts c k) (λ h e there goes _. counts c h k e there goes) g after held stays sound;
        honest = honest;
      }

pub promise_kept : Promise
promise_kept c fit =
    record {
      streams = λ before b after k begins stays.
          let g : Gate = next c (run c empty before) b in
          let new = found_parts k g _ (begins_so c (run c empty before) k b begins).fresh in
          kept c fit k g new.0 (ap (λ (s : Connection). s.stream) new.1) after stays;
      packets = λ before e. handled c fit.width (run c empty before) e;
      syns = λ before p. syn_passes c (run c empty before) p;
      unbegun = λ before p. unbegun c (run c empty before) p;
      replies = λ before p. reply_passes c (run c empty before) p;
      others = λ before p. loom_passes c (run c empty before) p;
      sender_resets = λ before p. sender_resets_lem c (run c empty before) p;
      loom_resets = λ before p. loom_resets_lem c (run c empty before) p;
      few = run_few c;
      distinct = run-distinct c;
    }
