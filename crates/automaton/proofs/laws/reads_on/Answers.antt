use Rattle.automaton.proofs.ListLaws.{reads_on}
use Rattle.automaton.proofs.laws.reads_on.Goals as goal

pub returns : goal.returns
returns c = reads_on
