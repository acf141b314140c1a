use Rattle.automaton.proofs.ListLaws.{reads_back}
use Rattle.automaton.proofs.laws.reads_back.Goals as goal

pub returns : goal.returns
returns c = reads_back
