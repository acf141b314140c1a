use Rattle.frames.proofs.OnLaws.{config_reads_on}
use Rattle.frames.proofs.laws.config_reads_on.Goals as goal

pub returns : goal.returns
returns c = config_reads_on
