use Rattle.packet.proofs.SumLaws.{sum_law}
use Rattle.packet.proofs.laws.sum_law.Goals as goal

pub returns : goal.returns
returns c = sum_law
