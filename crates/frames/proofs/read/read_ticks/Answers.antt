use Rattle.std.proofs.Common.{◌≡◌, ◌≤◌, length, ◌∙◌, arith}
use Rattle.std.proofs.lemmas.Bool.Decides.{nat_tests}
use Rattle.packet.specs.Bytes.{read32}
use Rattle.frames.specs.Items.{ticks_item}
use Rattle.frames.proofs.ItemLaws.{spelled}
use Rattle.frames.proofs.read.read_ticks.Goals as goal

pub returns-in_default : goal.returns-in_default
unfolding ticks_item
returns-in_default c = grind (arith, nat_tests)

pub returns : goal.returns
unfolding ticks_item
returns c =
    let n : c.from_be_bytes.result ≡ read32 1 c.args.bytes.now = c.from_be_bytes.ensures ∙ spelled _ _ _ _ in
    let l : 5 ≤ length c.args.bytes.now = grind (arith, nat_tests) in
    (grind (arith, nat_tests), tt, omega arith, l)
