use Rattle.frames.proofs.WholeLaws.{blocks_read}
use Rattle.frames.proofs.laws.blocks_read.Goals as goal

pub returns : goal.returns
returns c = blocks_read
