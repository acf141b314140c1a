use Rattle.std.proofs.Common.{◌≡◌, ℕ, ◌<◌, ◌≤◌, get_or, cond, ◌==◌}
use Rattle.automaton.proofs.build.fill_row.Given as goal

abbrev pub invariant-loop-b : goal.invariant-loop-b
invariant-loop-b l = record {
  before : (k : ℕ) → k < l.b → get_or l.row k 0 ≡ cond (get_or l.initial.row k 0 == 0) (get_or l.other k 0) (get_or l.initial.row k 0);
  behind : (k : ℕ) → l.b ≤ k → get_or l.row k 0 ≡ get_or l.initial.row k 0;
}
