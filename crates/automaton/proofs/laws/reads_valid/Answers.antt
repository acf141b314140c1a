use Rattle.automaton.proofs.ListLaws.{reads_valid}
use Rattle.automaton.proofs.laws.reads_valid.Goals as goal

pub returns : goal.returns
returns c = reads_valid
