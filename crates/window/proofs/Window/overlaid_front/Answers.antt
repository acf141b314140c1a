use Rattle.std.proofs.Common.{length}
use Rattle.window.specs.Cells.{cells}
use Rattle.window.specs.Window.{width}
use Rattle.window.proofs.RingLaws.{front_runs}
use Rattle.window.proofs.WindowLaws.{knows_is, window_runs}
use Rattle.window.proofs.Window.overlaid_front.Goals as goal

pub returns : goal.returns
returns c =
    let w = c.args.self.now in
    let part = c.args.part.now in
    let at = c.locate-at.result.0 in
    let first = c.locate-at.result.1 in
    let runs = window_runs w c.args.place (length part) at first c.locate-at.ensures.at c.locate-at.ensures.first c.requires in
    rw (knows_is w) (front_runs (width w) w.low c.args.place at first (cells w.ring) part runs c.overlaid_front.result.now c.overlaid_front.ensures)
