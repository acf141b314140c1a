use Rattle.std.proofs.Common.{◌+◌, ◌/◌, ◌%◌, refl, ◌∙◌}
use lib.Bits.{and_mask}
use Rattle.packet.proofs.SumLaws.{sum_swapped}
use Rattle.packet.proofs.checksum.sum.Goals as goal

pub returns : goal.returns
returns c =
    let s = c.little_sum-sum.result in
    sum_swapped c.args.bytes.now s (s / 4294967296 + s / 65536 % 65536 + s % 65536) c.fold.result c.swap_bytes.result
    c.little_sum-sum.ensures.value refl (c.fold.ensures ∙ rw (and_mask (s / 65536) 16, and_mask s 16) refl) c.swap_bytes.ensures
