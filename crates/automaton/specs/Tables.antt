-- What a table is right for. Assumes nothing.
use Rattle.std.specs.Prelude.{List, vec_items}
use Rattle.automaton.specs.Link.{Right}
use Rattle.automaton.specs.Text.{Text}
use Rattle.automaton.specs.declared.table.Table.{Table}

-- the table is that of these words
abbrev pub TableOf : List Text → Table → Type 0
TableOf ws table = Right ws (vec_items table.states.rows) (vec_items table.states.tells)
