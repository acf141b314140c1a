use Rattle.std.proofs.Common.{vec_items}
use Rattle.automaton.specs.Link.{Linking, Walked}
use Rattle.automaton.specs.Words.{words_of}
use Rattle.automaton.proofs.table.States.link_round.Given as goal

abbrev pub invariant-loop-i : goal.invariant-loop-i
invariant-loop-i l =
    Linking (words_of l.words) l.d l.i (vec_items l.self.rows) (vec_items l.self.tells) l.fail × Walked (words_of l.words) l.d l.i l.at
