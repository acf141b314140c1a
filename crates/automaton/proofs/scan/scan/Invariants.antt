use Rattle.std.proofs.Common.{◌≡◌, ◌<◌, length, drop}
use Rattle.automaton.specs.Scanned.{scanned}
use Rattle.automaton.proofs.scan.scan.Given as goal

abbrev pub invariant-loop-at : goal.invariant-loop-at
invariant-loop-at l =
    (l.s < length l.tells) ×
    (scanned l.rows l.tells l.s l.at (drop l.at l.bytes) ≡ scanned l.rows l.tells l.state 0 l.bytes)
