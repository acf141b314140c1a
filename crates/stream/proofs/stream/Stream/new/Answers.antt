use Rattle.stream.specs.Steps.{run}
use Rattle.stream.proofs.MarkLaws.{blank_shown}
use Rattle.stream.proofs.stream.Stream.new.Goals as goal

pub returns : goal.returns
unfolding run
returns c =
    let m = c.in_ok-window.ensures in
    (m.0, m.1, m.2, λ ws. blank_shown ws _ c.start.ensures m.3 m.4)
