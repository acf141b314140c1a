use Rattle.stream.proofs.Kept.{promise}
use Rattle.stream.proofs.laws.stream_kept.Goals as goal

pub returns : goal.returns
returns c = promise
