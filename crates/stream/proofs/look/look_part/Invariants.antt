use Rattle.std.proofs.Common.{◌≡◌, ℕ, ◌+◌, List, ◌++◌, length, Ok}
use Rattle.automaton.specs.States.{run}
use Rattle.automaton.specs.Tables.{TableOf}
use Rattle.automaton.specs.Text.{Text}
use Rattle.window.specs.Known.{Within, overlay}
use Rattle.window.specs.Window.{knows, width}
use Rattle.stream.specs.Look.{LookOf}
use Rattle.stream.proofs.look.look_part.Given as goal

-- `seen` was looked at without finding a word; the rest of the part is still to come
abbrev pub invariant-loop-rest : goal.invariant-loop-rest
invariant-loop-rest l =
    (seen : List ℕ) ×
    (overlay (knows l.window) l.fn.from.end l.part ≡ seen ++ overlay (knows l.window) l.reached.end l.rest) ×
    (l.reached.end + length l.rest ≡ l.fn.from.end + length l.part) ×
    Within l.window.low (width l.window) l.reached.end (length l.rest) ×
    ((ws : List Text) (t : Text) → TableOf ws l.table → l.fn.from.state ≡ run ws 0 t → l.fn.from.end ≡ length t → LookOf ws t seen (Ok l.reached))

abbrev pub decreases-loop-rest : goal.decreases-loop-rest
decreases-loop-rest l = length l.rest
