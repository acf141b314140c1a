use Rattle.stream.specs.Steps.{run}
use Rattle.stream.proofs.MarkLaws.{blank_shown}
use Rattle.stream.proofs.stream.Stream.clear.Goals as goal

pub returns : goal.returns
unfolding run
returns c = record {
  width = c.clear.ensures.width;
  fresh = λ ws. blank_shown ws _ c.start-self.ensures c.clear.ensures.low c.clear.ensures.known;
}
