use Rattle.std.proofs.Common.{take, vec_items}
use Rattle.automaton.specs.Trie.{TrieOf}
use Rattle.automaton.specs.Words.{words_of}
use Rattle.automaton.proofs.table.States.trie.Given as goal

abbrev pub invariant-loop-number : goal.invariant-loop-number
invariant-loop-number l = TrieOf (take l.number (words_of l.words)) (vec_items l.built.rows) (vec_items l.built.tells)
