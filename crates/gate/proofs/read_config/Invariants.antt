use Rattle.std.proofs.Common.{◌-◌, length, vec_items}
use Rattle.frames.specs.Buffer.{pending}
use Rattle.gate.proofs.read_config.Given as goal

-- the room that is left in the buffer
abbrev pub decreases-loop-config : goal.decreases-loop-config
decreases-loop-config g l = length (vec_items l.input.buffer) - length (pending l.input)
