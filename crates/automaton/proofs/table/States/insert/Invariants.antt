use Rattle.std.proofs.Common.{◌≡◌, List, length, vec_items}
use Rattle.automaton.specs.Text.{Text}
use Rattle.automaton.specs.Trie.{TrieOf}
use Rattle.automaton.proofs.Put.{Putting}
use Rattle.automaton.proofs.table.States.insert.Given as goal

abbrev pub invariant-loop-b : goal.invariant-loop-b
invariant-loop-b l =
    (ws : List Text) → length ws ≡ l.number → TrieOf ws (vec_items l.initial.self.rows) (vec_items l.initial.self.tells) →
    Putting ws l.word l.b-index l.s (vec_items l.self.rows) (vec_items l.self.tells)
