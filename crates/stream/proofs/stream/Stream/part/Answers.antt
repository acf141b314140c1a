use Rattle.std.proofs.Common.{max, ap, ◌∙◌}
use Rattle.window.specs.Window.{width}
use Rattle.stream.proofs.PartLaws.{Starts, part_of, starts_at, starts_below}
use Rattle.stream.proofs.stream.Stream.part.Goals as goal
use Rattle.stream.proofs.stream.Stream.part.Goals.{in-At, in-Below}

pub returns : goal.returns
returns c =
    let code = c.args.self.now in
    let es : Starts c.args.at c.args.len c.match-at.first.0 c.match-at.first.1 = elim c.match-at.branch [
      | in-At w ↦ rw (w.first-is, w.in-At.is) (starts_at w.in-At.i c.args.len)
      | in-Below w ↦ rw (w.first-is, w.in-Below.is, w.min.ensures) (starts_below w.in-Below.n c.args.len)
    ] in
    part_of code.window.low (width code.window) code.marks.fin c.args.at c.args.len c.limit.result c.match-at.first.0 c.match-at.first.1
    c.cut-inside.result.start c.cut-inside.result.end c.max.result c.limit.ensures es c.cut-inside.ensures.part c.cut-inside.ensures.within
    (c.max.ensures ∙ ap (max c.match-at.first.0) c.low.ensures)
