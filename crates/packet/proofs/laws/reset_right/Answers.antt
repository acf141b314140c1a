use Rattle.packet.proofs.ResetLaws.{reset-right}
use Rattle.packet.proofs.laws.reset_right.Goals as goal

pub returns : goal.returns
returns c = reset-right
