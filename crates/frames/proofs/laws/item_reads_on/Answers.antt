use Rattle.frames.proofs.OnLaws.{item_reads_on}
use Rattle.frames.proofs.laws.item_reads_on.Goals as goal

pub returns : goal.returns
returns c = item_reads_on
