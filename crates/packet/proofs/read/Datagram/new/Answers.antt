use Rattle.std.proofs.Common.{arith}
use Rattle.std.proofs.lemmas.Bool.Decides.{nat_tests}
use Rattle.packet.proofs.ReadLaws.{Good, good}
use Rattle.packet.proofs.read.Datagram.new.Goals as goal

pub invariant_of-result : goal.invariant_of-result
invariant_of-result c =
    let g : Good c.args.bytes.now = good c.args.bytes.now (grind (arith, nat_tests)) in
    record { least = g.least; most = omega (arith, g.total, c.type_inv.bytes 2, c.type_inv.bytes 3) }
