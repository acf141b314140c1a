use Rattle.window.specs.Window.{width}
use Rattle.std.proofs.Common.{false}
use Rattle.stream.specs.Steps.{Segment, run}
use Rattle.stream.specs.Stream.{blank}
use Rattle.stream.proofs.Kept.{promise}
use Rattle.stream.proofs.TakeLaws.{differs}
use Rattle.stream.proofs.stream.Stream.differs.Goals as goal

pub returns : goal.returns
returns c ws before ne st =
    let w = width c.args.self.now.window in
    let a : Segment = record { at = c.args.at; bytes = c.args.payload.now; fin = false } in
    differs ws (run w ws blank before) c.args.self.now a c.part-start.result st (promise w ws ne before).sound c.part-start.ensures c.differs.result c.differs.ensures
