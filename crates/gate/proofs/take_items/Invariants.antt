use Rattle.std.proofs.Common.{◌-◌}
use Rattle.gate.proofs.take_items.Given as goal

abbrev pub decreases-loop-item : goal.decreases-loop-item
decreases-loop-item l = l.input.end - l.input.start
