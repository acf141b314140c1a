use Rattle.std.proofs.Common.{vec_items}
use Rattle.automaton.specs.Words.{words_of}
use Rattle.automaton.proofs.ReadLaws.{Reading}
use Rattle.automaton.proofs.list.WordList.read.Given as goal

abbrev pub invariant-loop-read : goal.invariant-loop-read
invariant-loop-read l = Reading l.bytes l._read-end l._read (words_of (vec_items l.words)) l.size l.at
