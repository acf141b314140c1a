use Rattle.std.proofs.Common.{◌/◌, length, ap, ◌∙◌, arith}
use Rattle.std.proofs.lemmas.List.{take_all}
use Rattle.std.specs.Int.{from_le_bytes, w32}
use Rattle.std.specs.List.{sum_by}
use Rattle.packet.specs.Checksum.{little_sum}
use Rattle.packet.proofs.SumLaws.{little_words}
use Rattle.packet.proofs.checksum.little_sum.Goals as goal

pub returns-clause-value : goal.returns-clause-value
returns-clause-value c =
    let bytes = c.args.bytes.now in
    let words = c.as_chunks.result.0.now in
    let summed = ap (sum_by (from_le_bytes w32)) (take_all c.loop-word.word-index words c.loop-word-test.false ∙ c.as_chunks.ensures.front) in
    let last = ap little_sum c.as_chunks.ensures.back in
    omega (arith, little_words (length bytes / 4) bytes (omega arith), summed, last)
