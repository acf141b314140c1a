use Rattle.std.proofs.Common.{arith}
use Rattle.std.proofs.lemmas.Bool.Decides.{nat_tests}
use Rattle.packet.specs.Packet.{tcp}
use Rattle.packet.proofs.read.Datagram.is_tcp.Goals as goal

pub returns-then-self-ge40 : goal.returns-then-self-ge40
unfolding tcp
returns-then-self-ge40 c = grind (arith, nat_tests)

pub returns-else-self-ge40 : goal.returns-else-self-ge40
unfolding tcp
returns-else-self-ge40 c = grind (arith, nat_tests)
