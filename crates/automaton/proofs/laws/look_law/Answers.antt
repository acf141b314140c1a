use Rattle.automaton.proofs.LookLaws.{look_law}
use Rattle.automaton.proofs.laws.look_law.Goals as goal

pub returns : goal.returns
returns c = look_law
