use Rattle.std.proofs.Common.{ap, ◌∙◌}
use Rattle.sequence.specs.Places.{place_of}
use Rattle.filter.proofs.ForwardLaws.{low_fits, shown}
use Rattle.filter.proofs.connection.Connection.place.Goals as goal

pub returns : goal.returns
returns c cf m ne h =
    let v = c.args.self.now in
    c.place_of.ensures.within (rw c.marks.ensures (low_fits cf m v h ne)) ∙ ap (λ x. place_of v.first x.low c.args.number) c.marks.ensures
    ∙ ap (λ f. place_of f v.stream.marks.low c.args.number) h.first ∙ ap (λ l. place_of m.first l c.args.number) (shown cf m v h).low
