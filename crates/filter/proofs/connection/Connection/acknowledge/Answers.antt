use Rattle.std.proofs.Common.{◌≡◌, true, false, length, drop, sym, refl, ap, ◌∙◌, arith}
use Rattle.std.specs.List.{between}
use Rattle.std.proofs.lemmas.List.{drop_all}
use Rattle.std.proofs.lemmas.Slice.{between_to_end}
use Rattle.packet.specs.Packet.{packet, rewrite}
use Rattle.sequence.specs.Places.{number_of, place_of}
use Rattle.stream.specs.Stream.{Stream, ack_limit, acknowledged_to}
use Rattle.filter.specs.declared.side.Side.TheVariants.{Outside}
use Rattle.filter.specs.Decide.{acked_at, lowered}
use Rattle.filter.specs.Gate.{active}
use Rattle.filter.specs.Held.{above}
use Rattle.filter.specs.Verdict.{Update}
use Rattle.filter.proofs.AcknowledgeLaws.{acked_held, all_of, as_came_lem, is_lowered, of_model}
use Rattle.filter.proofs.connection.Connection.acknowledge.Goals as goal

pub returns-then-not-is_above : goal.returns-then-not-is_above
returns-then-not-is_above c = record {
  left = (omega arith, omega arith, refl, refl);
  acknowledges = λ cf k m eq ne up h.
      let v = c.args.self.now in
      let old = c.args.packet.now in
      let sg = c.args.segment.now in
      let rd = c.requires in
      let ep : c.place-place.result ≡ acked_at m (packet old) =
      c.place-place.ensures cf m ne h ∙ ap (place_of m.first m.stream.low) rd.1.acknowledged in
      let el = of_model cf m v h (λ (s : Stream). c.ack_limit-limit.result ≡ ack_limit s) (c.ack_limit-limit.ensures cf.words h.before ne h.stands) in
      let no : above (acked_at m (packet old)) c.ack_limit-limit.result ≡ false = sym (ap (λ p. above p c.ack_limit-limit.result) ep) ∙ sym c.is_above.ensures ∙ c.if-not-is_above.true in (
        active cf.quiet (acknowledged_to (acked_at m (packet old)) m.stream) m,
        ap (Update k (active cf.quiet (acknowledged_to (acked_at m (packet old)) m.stream) m) Outside) (as_came_lem m old (acked_at m (packet old)) c.ack_limit-limit.result el no ∙ sym (all_of old)),
        acked_held cf m v h up c.acknowledge.new.self c.place-place.result c.acknowledge.ensures.width
            (c.acknowledge.ensures.took cf.words h.before ne h.stands) _ _ refl (sym (ap (λ p. acknowledged_to p m.stream) ep)) h.first h.opening h.last_ack (sym eq),
      );
}

pub returns : goal.returns
returns c =
    let old = c.args.packet.now in
    let sg = c.args.segment.now in
    let rd = c.requires in
    let mv = c.rewrite.ensures.rest in
    let e0 : c.rewrite.result.start ≡ 0 = omega (arith, mv.from, c.none.ensures.start, rd.1.payload) in
    let e1 : c.rewrite.result.end ≡ length old = mv.to ∙ c.none.ensures.end in
    record {
      left = (
        omega arith,
        omega arith,
        rw e0 refl,
        rw e1 (drop_all (length old) c.rewrite.new.packet (omega (arith, mv.long)) ∙ sym (drop_all (length old) old (omega arith))),
      );
      acknowledges = λ cf k m eq ne up h.
          let v = c.args.self.now in
          let limit = c.ack_limit-limit.result in
          let ep : c.place-place.result ≡ acked_at m (packet old) =
          c.place-place.ensures cf m ne h ∙ ap (place_of m.first m.stream.low) rd.1.acknowledged in
          let el = of_model cf m v h (λ (s : Stream). limit ≡ ack_limit s) (c.ack_limit-limit.ensures cf.words h.before ne h.stands) in
          let yes : above (acked_at m (packet old)) limit ≡ true = sym (ap (λ p. above p limit) ep) ∙ sym c.is_above.ensures ∙ c.if-not-is_above.false in
          let k0 = c.none.ensures in
          let payload : between c.none.result.start c.none.result.end old ≡ (packet old).payload =
          ap (λ j. between c.none.result.start j old) k0.end ∙ between_to_end old c.none.result.start (length old) (omega arith)
          ∙ ap (λ i. drop i old) (k0.start ∙ rd.1.payload) in
          let out : between c.rewrite.result.start c.rewrite.result.end c.rewrite.new.packet ≡ lowered m (packet old) (acked_at m (packet old)) =
          c.rewrite.ensures.out old rd.0 refl
          ∙ ap (λ x. rewrite (packet old) x c.number_of.result c.none.result.marks (between c.none.result.start c.none.result.end old)) (k0.number ∙ rd.1.number)
          ∙ ap (λ x. rewrite (packet old) (packet old).number x c.none.result.marks (between c.none.result.start c.none.result.end old)) (c.number_of.ensures ∙ ap (λ f. number_of f limit) h.first)
          ∙ ap (λ x. rewrite (packet old) (packet old).number (number_of m.first limit) x (between c.none.result.start c.none.result.end old)) (k0.marks ∙ rd.1.marks)
          ∙ ap (rewrite (packet old) (packet old).number (number_of m.first limit) (packet old).marks) payload
          ∙ sym (is_lowered m old (acked_at m (packet old)) limit el yes) in (
            active cf.quiet (acknowledged_to (acked_at m (packet old)) m.stream) m,
            ap (Update k (active cf.quiet (acknowledged_to (acked_at m (packet old)) m.stream) m) Outside) (sym out),
            acked_held cf m v h up c.acknowledge.new.self c.place-place.result c.acknowledge.ensures.width
                (c.acknowledge.ensures.took cf.words h.before ne h.stands) _ _ refl (sym (ap (λ p. acknowledged_to p m.stream) ep)) h.first h.opening h.last_ack (sym eq),
          );
    }
