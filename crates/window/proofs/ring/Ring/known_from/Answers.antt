use Rattle.std.proofs.Common.{◌≡◌, ◌+◌, ◌-◌, arith}
use Rattle.window.proofs.CellLaws.{known_run}
use Rattle.window.proofs.ring.Ring.known_from.Goals as goal

pub returns : goal.returns
returns c =
    let ring = c.args.self.now in
    let all : c.args.at + c.run.result - c.args.at ≡ c.run.result = omega arith in
    rw (all, c.deref.ensures.value) (known_run ring.bytes.items ring.known.words.items c.args.at c.args.count c.run.result c.run.ensures (omega (arith, ring.bytes.ok.0)))
