use Rattle.frames.proofs.OnLaws.{cut_is_short}
use Rattle.frames.proofs.laws.cut_is_short.Goals as goal

pub returns : goal.returns
returns c = cut_is_short
