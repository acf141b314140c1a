-- Acknowledged numbers of the loom go out as they came, or lowered to what was passed on without a gap.
-- Assumes nothing.
use Rattle.std.proofs.Common.{◌≡◌, ℕ, ◌+◌, ◌%◌, ◌≤◌, min, not, ◌&&◌, leb, List, [], length, is_some, Some, None, Ok, Option, sym, refl, ap, ◌∙◌, subst, arith}
use Rattle.std.proofs.lemmas.Bool.{both_ways, cond_both, and_parts, leb-true, leb-false}
use Rattle.automaton.specs.Text.{Text}
use Rattle.packet.specs.Bytes.{Bytes}
use Rattle.packet.specs.Packet.{Packet, packet, read}
use Rattle.packet.proofs.WriteLaws.{sent-right}
use Rattle.sequence.specs.declared.Place.{Place}
use Rattle.sequence.specs.declared.Place.TheVariants.{Below, At}
use Rattle.sequence.specs.Places.{number_of, place_of}
use Rattle.sequence.proofs.PlaceLaws.{place_back}
use Rattle.window.proofs.PieceLaws.{none-some}
use Rattle.stream.specs.Stream.{Stream, none_elsewhere, ack_limit, acknowledged_to}
use Rattle.stream.specs.Promise.{Sound}
use Rattle.stream.proofs.Sound.{text_within}
use Rattle.filter.specs.Config.{Config, Key, same_key}
use Rattle.filter.specs.declared.side.Side.TheVariants.{Outside, Looms}
use Rattle.filter.specs.Gate.{Connection, active, Gate}
use Rattle.filter.specs.Verdict.{Event, Comes, Ticks, Verdict, apply, answer_of}
use Rattle.filter.specs.Decide.{acked_at, lowered, acknowledges, next, verdict}
use Rattle.filter.specs.Promise.{stream_of, segment_of, ack_of, ack_read, arrival, arrives, Acknowledged}
use Rattle.filter.proofs.Keys.{same_key_lem, put_same}
use Rattle.filter.proofs.Decided
use Rattle.filter.proofs.Decided.{Decided, decided, Open, loom_of}

limit : (s : Stream) → (length s.text ≤ ack_limit s) × (ack_limit s ≤ length s.text + 1)
limit s =
    cond_both (is_some s.fin && none_elsewhere s.fin (length s.text)) (length s.text + 1) (length s.text)
    (λ n. (length s.text ≤ n) × (n ≤ length s.text + 1)) (λ _. (omega arith, omega arith)) (λ _. (omega arith, omega arith))

module _ (width : ℕ) (small : width ≤ 65536) (words : List Text) (s : Connection) (sound : Sound width words s.stream) (p : Bytes) (reads : read p ≡ Ok (packet p)) where
  lowered_payload : (i : Place) → (packet (lowered s (packet p) i)).payload ≡ (packet p).payload
  lowered_payload (Below n) = refl
  lowered_payload (At i) =
      cond_both (leb i (ack_limit s.stream)) p _ (λ out. (packet out).payload ≡ (packet p).payload) (λ _. refl) (λ _. (sent-right.fields p reads _ _ _ (packet p).payload).payload)

  lowered-place : (i : ℕ) → acked_at s (packet p) ≡ At i → acked_at s (packet (lowered s (packet p) (At i))) ≡ At (min i (ack_limit s.stream))
  lowered-place i e =
      cond_both (leb i (ack_limit s.stream)) p _ (λ out. acked_at s (packet out) ≡ At (min i (ack_limit s.stream)))
      (λ l. e ∙ ap At (omega (arith, leb-true i (ack_limit s.stream) l)))
      (λ l.
      let least = (limit s.stream).0 in
      let most = (limit s.stream).1 in
      let text = text_within width words s.stream sound in
      let high = leb-false i (ack_limit s.stream) l in
      let low = sound.low_text in
      let number : number_of s.first (ack_limit s.stream) % 4294967296 ≡ number_of s.first (ack_limit s.stream) = omega arith in
      ap (place_of s.first s.stream.low) ((sent-right.fields p reads _ _ _ _).acknowledged ∙ number) ∙
      (place_back s.first s.stream.low (ack_limit s.stream) (omega arith) (omega arith) ∙ ap At (omega arith)))

-- the event brings this segment of the stream's loom
record Brings (c : Config) (g : Gate) (k : Key) (v : Verdict) (p : Packet) : Type 0 where
  raw : Bytes
  reads : read raw ≡ Ok (packet raw)
  is : p ≡ packet raw
  done : v ≡ acknowledges c k (g.connection k) p

ack_came : (k : Key) (p : Bytes) (q : Packet) → read p ≡ Ok (packet p) → ack_of k (Comes Looms p) ≡ Some q → (k ≡ loom_of p) × (packet p ≡ q)
ack_came k p q reads came =
    cond_both (same_key k (loom_of p) && ((packet p).ack && (not (packet p).syn && not (packet p).rst))) (Some (packet p)) None (λ x. x ≡ Some q → (k ≡ loom_of p) × (packet p ≡ q))
    (λ t e. let is : packet p ≡ q = cc in (same_key_lem k (loom_of p) (and_parts (same_key k (loom_of p)) _ t).0, is)) (λ _ e. absurd (none-some refl e)) (sym (ap (ack_read k) reads) ∙ came)

module _ (c : Config) (g : Gate) (k : Key) where
  -- an acknowledged number is something
  comes_some : (e : Event) (q : Packet) → arrives k (g.connection k) e ≡ [] → ack_of k e ≡ Some q → ⊥
  comes_some e q none came = go (segment_of k e) (sym none ∙ ap (arrival (g.connection k) (segment_of k e)) came)
    where
      go : (x : Option Packet) → [] ≡ arrival (g.connection k) x (Some q) → ⊥
      go (Some p) h = omega (arith, ap length h)
      go None h = omega (arith, ap length h)

  -- no event brings a segment of both
  not_both : (e : Event) (p q : Packet) → segment_of k e ≡ Some p → ack_of k e ≡ Some q → ⊥
  not_both (Ticks n) p q s a = none-some refl a
  not_both (Comes Outside raw) p q s a = none-some refl a
  not_both (Comes Looms raw) p q s a = none-some refl s

  brings : (e : Event) (v : Verdict) → Decided c g e v → (q : Packet) → ack_of k e ≡ Some q → Open k g → Brings c g k v q
  brings _ _ (Decided.refuses side p n l why) q came o = absurd (idle (why k o.held))
    where
      idle : Decided.Idle c g (Comes side p) k → ⊥
      idle (Decided.idle_none none) = comes_some (Comes side p) q none came
      idle (Decided.idle_shut shut) = both_ways _ o.not_shut shut
      idle (Decided.idle_empty segment s is without) = not_both (Comes side p) segment q s came
  brings _ _ (Decided.elapses n) q came o = absurd (none-some refl came)
  brings _ _ (Decided.opening p r new n m alone) q came o = absurd (none-some refl came)
  brings _ _ (Decided.bare p out r w n t x m) q came o = absurd (none-some refl came)
  brings _ _ (Decided.takes p w is) q came o = absurd (none-some refl came)
  brings _ _ (Decided.acks_only p w is m) q came o = absurd (none-some refl came)
  brings _ _ (Decided.shuts p w found is) q came o = absurd (none-some refl came)
  brings _ _ (Decided.replies p out r new n t x) q came o = absurd (comes_some (Comes Looms p) q (n k o.held) came)
  brings _ _ (Decided.again p r w n) q came o = absurd (comes_some (Comes Looms p) q (n k o.held) came)
  brings _ _ (Decided.acks p r w own t x) q came o =
      let both = ack_came k p q r came in
      subst (λ (x : Key). Brings c g x (acknowledges c (loom_of p) (g.connection (loom_of p)) (packet p)) q) (sym both.0) (record { raw = p; reads = r; is = sym both.1; done = ap (acknowledges c (loom_of p) (g.connection (loom_of p))) both.1 })
  brings _ _ (Decided.begins p w n) q came o = absurd (comes_some (Comes Looms p) q (n k o.held) came)
  brings _ _ (Decided.ends p out r w rst n t x) q came o = absurd (comes_some (Comes Looms p) q (n k o.held) came)

  module _ (small : c.width ≤ 65536) (sound : Sound c.width c.words (stream_of k g)) where
    abbrev s : Connection
    s = g.connection k

    pub acked : (e : Event) (p : Packet) → ack_of k e ≡ Some p → Open k g → Acknowledged c k g e p
    acked e p came o =
        record {
          out = lowered s p place;
          goes = ap answer_of b.done;
          payload = subst (λ (x : Packet). (packet (lowered s x place)).payload ≡ x.payload) (sym b.is) (lowered_payload c.width small c.words s sound b.raw b.reads place);
          lowered = λ i at. (
            subst (λ (x : Place). acked_at s (packet (lowered s p x)) ≡ At (min i (ack_limit s.stream))) (sym at) (limited i at),
            low ∙ ap (λ (x : Place). (acknowledged_to x s.stream).low) at,
          );
          below = λ n at. (ap (lowered s p) at, low ∙ ap (λ (x : Place). (acknowledged_to x s.stream).low) at);
        }
      where
        b : Brings c g k (verdict c g e) p
        b = brings e (verdict c g e) (decided c g e) p came o

        place : Place
        place = acked_at s p

        limited : (i : ℕ) → acked_at s p ≡ At i → acked_at s (packet (lowered s p (At i))) ≡ At (min i (ack_limit s.stream))
        limited i at =
            subst (λ (x : Packet). acked_at s x ≡ At i → acked_at s (packet (lowered s x (At i))) ≡ At (min i (ack_limit s.stream))) (sym b.is)
            (lowered-place c.width small c.words s sound b.raw b.reads i) at

        low : (stream_of k (next c g e)).low ≡ (acknowledged_to place s.stream).low
        low =
            ap (λ (v : Verdict). (stream_of k (apply v g)).low) b.done ∙
            ap (λ (t : Connection). t.stream.low) (put_same k (active c.quiet (acknowledged_to place s.stream) s) g)
