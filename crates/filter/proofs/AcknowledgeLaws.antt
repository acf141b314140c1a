-- What a loom acknowledges is handled as decided.
-- Assumes nothing.
use Rattle.std.proofs.Common.{◌≡◌, ℕ, ◌-◌, true, false, leb, [], ◌∷◌, ◌++◌, length, take, sym, refl, ap, ◌∙◌, subst, arith}
use Rattle.std.specs.List.{between}
use Rattle.std.proofs.lemmas.List.{take_all}
use Rattle.std.proofs.lemmas.Bool.{cond-false, cond-true, le-leb, lt-leb, ltb-false, ltb-true}
use Rattle.packet.specs.Bytes.{Bytes}
use Rattle.packet.specs.Packet.{packet, rewrite}
use Rattle.sequence.specs.declared.Place.{Place}
use Rattle.sequence.specs.declared.Place.TheVariants.{At, Below}
use Rattle.sequence.specs.Places.{number_of}
use Rattle.window.specs.Window.{width}
use Rattle.stream.specs.Shown.{Stands}
use Rattle.stream.specs.Steps.{Acked, run, step}
use Rattle.stream.specs.Stream.{Stream, ack_limit, acknowledged_to, blank}
use Rattle.stream.specs.Took.{Followed}
use Rattle.stream.specs.declared.stream.Stream.{Stream as StreamValue}
use Rattle.stream.proofs.TakeLaws.{run_push}
use Rattle.filter.specs.Config.{Config}
use Rattle.filter.specs.Decide.{lowered}
use Rattle.filter.specs.Gate.{Connection}
use Rattle.filter.specs.Held.{Held, above}
use Rattle.filter.specs.declared.connection.Connection.{Connection as Value}

-- all of a packet
pub all_of : (old : Bytes) → between 0 (length old) old ≡ old
all_of old = let e : length old - 0 ≡ length old = omega arith in ap (λ n. take n old) e ∙ take_all (length old) old (omega arith)

-- a place that is not above the limit passes as it is; one above it is lowered
pub as_came_lem : (m : Connection) (old : Bytes) (p : Place) (limit : ℕ) → limit ≡ ack_limit m.stream → above p limit ≡ false → lowered m (packet old) p ≡ old
as_came_lem m old (Below n) limit e f = refl
as_came_lem m old (At i) limit e f =
    cond-true (leb i (ack_limit m.stream)) old (rewrite (packet old) (packet old).number (number_of m.first (ack_limit m.stream)) (packet old).marks (packet old).payload)
    (le-leb i (ack_limit m.stream) (omega (arith, ltb-false limit i f)))

pub is_lowered : (m : Connection) (old : Bytes) (p : Place) (limit : ℕ) → limit ≡ ack_limit m.stream → above p limit ≡ true →
    lowered m (packet old) p ≡ rewrite (packet old) (packet old).number (number_of m.first limit) (packet old).marks (packet old).payload
is_lowered m old (Below n) limit e f = absurd (let z : ◌≡◌ {A = ℕ} 0 1 = cc in omega arith)
is_lowered m old (At i) limit e f =
    cond-false (leb i (ack_limit m.stream)) old (rewrite (packet old) (packet old).number (number_of m.first (ack_limit m.stream)) (packet old).marks (packet old).payload)
    (lt-leb i (ack_limit m.stream) (omega (arith, ltb-true limit i f)))
    ∙ ap (λ n. rewrite (packet old) (packet old).number (number_of m.first n) (packet old).marks (packet old).payload) (sym e)

module _ (c : Config) (m : Connection) (v : Value) (h : Held c m v) where
  -- what holds of the value's own history holds of the model's stream
  pub of_model : (P : Stream → Type 0) → P (run (width v.stream.window) c.words blank h.before) → P m.stream
  of_model P = subst P (ap (λ w. run w c.words blank h.before) h.wide ∙ sym h.history)

  pub acked_held : m.stream.shut ≡ false → (s' : StreamValue) (p : Place) → width s'.window ≡ width v.stream.window → Followed c.words (h.before ++ (Acked p ∷ [])) s' →
      (m' : Connection) (v' : Value) → v'.stream ≡ s' → m'.stream ≡ acknowledged_to p m.stream →
      v'.first ≡ m'.first → v'.opening ≡ m'.opening → v'.last_ack ≡ m'.last_ack → v'.left ≡ m'.left → Held c m' v'
  acked_held up s' p ew fo m' v' es em e1 e2 e3 e4 = record {
    first = e1;
    opening = e2;
    last_ack = e3;
    left = e4;
    wide = ap (λ s. width s.window) es ∙ ew ∙ h.wide;
    before = h.before ++ (Acked p ∷ []);
    history = em ∙ sym (cond-false m.stream.shut m.stream (acknowledged_to p m.stream) up) ∙ ap (λ s. step c.width c.words s (Acked p)) h.history
        ∙ sym (run_push c.width c.words blank h.before (Acked p));
    stands = subst (λ (s : StreamValue). Stands c.words (h.before ++ (Acked p ∷ [])) s) (sym es) fo.stands;
  }
