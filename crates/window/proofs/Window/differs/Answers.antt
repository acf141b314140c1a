use Rattle.std.proofs.Common.{length}
use Rattle.std.proofs.lemmas.List.{take_rest}
use Rattle.window.specs.Cells.{cells}
use Rattle.window.specs.Window.{width}
use Rattle.window.proofs.RingLaws.{differs_first, differs_rest}
use Rattle.window.proofs.WindowLaws.{knows_is, window_runs}
use Rattle.window.proofs.Window.differs.Goals as goal

pub returns-then-not-agrees : goal.returns-then-not-agrees
returns-then-not-agrees c =
    let w = c.args.self.now in
    let part = c.args.part.now in
    let at = c.locate-at.result.0 in
    let first = c.locate-at.result.1 in
    let runs = window_runs w c.args.place (length part) at first c.locate-at.ensures.at c.locate-at.ensures.first c.requires in
    rw (knows_is w) (differs_first (width w) w.low c.args.place at first (cells w.ring) part runs c.agrees.result c.agrees.ensures c.if-not-agrees.true)

pub returns-else-not-agrees : goal.returns-else-not-agrees
returns-else-not-agrees c =
    let w = c.args.self.now in
    let part = c.args.part.now in
    let at = c.locate-at.result.0 in
    let first = c.locate-at.result.1 in
    let runs = window_runs w c.args.place (length part) at first c.locate-at.ensures.at c.locate-at.ensures.first c.requires in
    rw (knows_is w) (differs_rest (width w) w.low c.args.place at first (cells w.ring) part runs c.agrees.result c.agrees-else-not-agrees.result c.agrees.ensures (rw (take_rest part first) at c.agrees-else-not-agrees.ensures) c.if-not-agrees.false)
