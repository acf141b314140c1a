use Rattle.window.proofs.CellLaws.{none_known_bits}
use Rattle.window.proofs.ring.Ring.none_known.Goals as goal

pub returns : goal.returns
returns c = none_known_bits c.args.self.now.bytes.items c.args.self.now.known.words.items c.args.at c.args.count c.none.result c.none.ensures
