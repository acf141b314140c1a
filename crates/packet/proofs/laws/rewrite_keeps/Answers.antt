use Rattle.packet.proofs.HeaderLaws.{rewrite_keeps}
use Rattle.packet.proofs.laws.rewrite_keeps.Goals as goal

pub returns : goal.returns
returns c = rewrite_keeps
