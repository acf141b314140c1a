use Rattle.std.proofs.Common.{vec_items}
use Rattle.automaton.specs.Link.{Linking, Walked}
use Rattle.automaton.specs.Words.{words_of}
use Rattle.automaton.proofs.table.States.link.Given as goal

abbrev pub invariant-loop-d : goal.invariant-loop-d
invariant-loop-d l =
    Linking (words_of l.words) l.d 0 (vec_items l.self.rows) (vec_items l.self.tells) (vec_items l.fail) × Walked (words_of l.words) l.d 0 (vec_items l.at)
