-- What the cells of a ring hold. Assumes nothing.
use Rattle.std.specs.Prelude.{vec_items}
use Rattle.window.specs.Known.{Known}
use Rattle.window.specs.Ring.{cell}
use Rattle.window.specs.declared.ring.Ring.{Ring}

-- the bytes known so far, each at its cell
abbrev pub cells : Ring → Known
cells r = cell (vec_items r.bytes) (vec_items r.known.words)
