use Rattle.std.proofs.Common.{arith}
use Rattle.packet.specs.Rewrites.{Within}
use Rattle.packet.proofs.PartLaws.{changed_sum}
use Rattle.packet.proofs.SumLaws.{sum_folds}
use Rattle.packet.proofs.rewrite.payload_change.Goals as goal

pub returns : goal.returns
returns c = λ old o.
    let new = c.args.packet.now in
    let part = c.in-Some.field-0 in
    let within : Within new part.start part.end = rw c.in-Some.is at c.requires.patched in
    let changed = rw c.in-Some.is at o in
    changed_sum old new c.args.head part (omega arith) within.ordered within.ends changed c.sum.result c.subtract-change.result c.shift.result
    (sum_folds _ _ c.sum.ensures) c.subtract-change.ensures c.shift.ensures
