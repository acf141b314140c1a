use Rattle.automaton.proofs.LookLaws.{last_word_law}
use Rattle.automaton.proofs.laws.last_word_law.Goals as goal

pub returns : goal.returns
returns c = last_word_law
