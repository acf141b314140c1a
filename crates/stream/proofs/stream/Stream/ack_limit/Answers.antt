use Rattle.std.proofs.Common.{◌∙◌, arith}
use Rattle.window.specs.Window.{width}
use Rattle.stream.specs.Steps.{run}
use Rattle.stream.specs.Stream.{blank}
use Rattle.stream.proofs.Kept.{promise}
use Rattle.stream.proofs.MarkLaws.{limit_shown, text_fits}
use Rattle.stream.proofs.stream.Stream.ack_limit.Goals as goal

pub returns : goal.returns
returns c ws before ne st =
    let w = width c.args.self.now.window in
    let s = run w ws blank before in
    let fits = text_fits w ws s (promise w ws ne before).sound in
    c.ack_limit.ensures.limit (omega (arith, st.end)) ∙ limit_shown ws s c.args.self.now st
