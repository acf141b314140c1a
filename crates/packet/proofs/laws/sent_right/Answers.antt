use Rattle.packet.proofs.WriteLaws.{sent-right}
use Rattle.packet.proofs.laws.sent_right.Goals as goal

pub returns : goal.returns
returns c = sent-right
