use Rattle.std.proofs.Common.{◌≡◌, ◌*◌, ◌≤◌, take}
use Rattle.std.specs.Int.{from_le_bytes, w32}
use Rattle.std.specs.List.{sum_by}
use Rattle.packet.proofs.checksum.little_sum.Given as goal

abbrev pub invariant-loop-word : goal.invariant-loop-word
invariant-loop-word l = (l.sum ≡ sum_by (from_le_bytes w32) (take l.word-index l.words)) × (l.sum ≤ 4294967295 * l.word-index)
