use Rattle.std.proofs.Common.{length, refl, sym, ◌∙◌, arith}
use Rattle.std.proofs.lemmas.Bool.{true≢false}
use Rattle.window.specs.Ring.{SetRun}
use Rattle.window.proofs.CellLaws.{agrees_turn, agrees_end, agrees_known, same_bytes, other_bytes}
use Rattle.window.proofs.ring.Ring.agrees.Goals as goal

pub returns-then-ne : goal.returns-then-ne
returns-then-ne c =
    let ring = c.args.self.now in
    let part = c.args.part.now in
    let at = c.args.at in
    let so = c.loop-start.invariant in
    let start = c.in-Some.start in
    let stop = c.in-Some.end in
    let run : SetRun ring.known.words.items c.loop-start.start-iterator.next c.loop-start.start-iterator.end start stop = rw so.bits at c.in-Some.ensures.steps.2.0 in (
      λ e. absurd (true≢false (sym e)),
      λ same. absurd (other_bytes part ring.bytes.items at start stop (omega arith, run.some) (omega arith) (omega (arith, ring.bytes.ok.0)) c.ne.result
          (rw c.deref.ensures.value at c.ne.ensures) c.if-ne.true
          (agrees_known ring.bytes.items ring.known.words.items part at start stop same (omega arith) (omega arith) run.set)),
    )

pub loop-start-preserved : goal.loop-start-preserved
loop-start-preserved c =
    let ring = c.args.self.now in
    let part = c.args.part.now in
    let at = c.args.at in
    let so = c.loop-start.invariant in
    let steps = c.in-Some.ensures.steps in
    let next = c.loop-start.start-iterator.next in
    let end = c.loop-start.start-iterator.end in
    let start = c.in-Some.start in
    let stop = c.in-Some.end in
    let run : SetRun ring.known.words.items next end start stop = rw so.bits at steps.2.0 in
    record {
      can = tt;
      finite = tt;
      bits = steps.0 ∙ so.bits;
      end = steps.1 ∙ so.end;
      from = omega (arith, steps.2.1, so.from);
      done = rw steps.2.1 (agrees_turn ring.bytes.items ring.known.words.items at next end start stop so.from run part so.done
          (same_bytes part ring.bytes.items at start stop (omega arith, run.some) (omega arith) (omega (arith, ring.bytes.ok.0)) c.ne.result
          (rw c.deref.ensures.value at c.ne.ensures) c.if-ne.false));
    }

pub returns : goal.returns
returns c =
    let ring = c.args.self.now in
    let so = c.loop-start.invariant in (
      λ e. agrees_end ring.bytes.items ring.known.words.items c.args.at c.loop-start.start-iterator.next (length c.args.part.now)
          (λ k h l. rw so.bits at (c.in-None.ensures.steps.2 k h (omega (arith, so.end)))) c.args.part.now (omega arith) so.from so.done,
      λ same. refl,
    )
