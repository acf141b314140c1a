use Rattle.std.proofs.Common.{◌≡◌, ◌+◌, true, arith}
use Rattle.window.specs.Ring.{bit, cell}
use Rattle.window.proofs.CellLaws.{cell_set, unknown_front, onwards_front}
use Rattle.window.proofs.ring.Ring.overlaid_front.Goals as goal

pub returns-then-n-gt0 : goal.returns-then-n-gt0
returns-then-n-gt0 c =
    let ring = c.args.self.now in
    unknown_front ring.bytes.items ring.known.words.items c.args.part.now c.args.at c.run-n.result c.run-n.ensures c.if-n-gt0.true

pub returns : goal.returns
returns c =
    let ring = c.args.self.now in
    let at = c.args.at in
    rw c.known_from.ensures (onwards_front (cell ring.bytes.items ring.known.words.items) at c.args.part.now
    (λ h none.
    let here : at + c.run-n.result ≡ at = omega arith in
    let on : bit ring.known.words.items at ≡ true = rw here at (c.run-n.ensures.ends (omega arith)) in
    let some = cell_set ring.bytes.items ring.known.words.items at on in
    cc))
