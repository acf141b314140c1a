use Rattle.std.proofs.Common.{◌-◌, length, inl, inr, ◌∙◌, rules, arith}
use borrow.Rule.Slice.PartMut.{put_mid}
use Rattle.std.proofs.lemmas.List.{places}
use Rattle.window.specs.Ring.{SetRun}
use Rattle.window.proofs.CellLaws.{overlaid_turn, overlaid_end}
use Rattle.window.proofs.ring.Ring.overlay.Goals as goal

pub loop-start-preserved : goal.loop-start-preserved
loop-start-preserved c =
    let ring = c.args.self.now in
    let at = c.args.at in
    let so = c.loop-start.invariant in
    let steps = c.in-Some.ensures.steps in
    let next = c.loop-start.start-iterator.next in
    let end = c.loop-start.start-iterator.end in
    let start = c.in-Some.start in
    let stop = c.in-Some.end in
    let run : SetRun ring.known.words.items next end start stop = rw so.bits at steps.2.0 in
    let new = put_mid (start - at) (stop - at - (start - at)) c.loop-start.part c.copy_from_slice.new.self in
    record {
      can = tt;
      finite = tt;
      bits = steps.0 ∙ so.bits;
      end = steps.1 ∙ so.end;
      from = omega (arith, steps.2.1, so.from);
      size = search (rules, places);
      done = rw steps.2.1 (overlaid_turn ring.bytes.items ring.known.words.items at next end start stop so.from run c.args.part.now c.loop-start.part new so.done
          (λ k o. elim o [ inl l ↦ search (rules, places) | inr l ↦ search (rules, places) ]) (λ k h l. search (rules, places)));
    }

pub returns : goal.returns
returns c =
    let ring = c.args.self.now in
    let so = c.loop-start.invariant in
    overlaid_end ring.bytes.items ring.known.words.items c.args.at c.loop-start.start-iterator.next (length c.args.part.now)
    (λ k h l. rw so.bits at (c.in-None.ensures.steps.2 k h (omega (arith, so.end)))) c.args.part.now c.loop-start.part (omega arith) so.size so.from so.done
