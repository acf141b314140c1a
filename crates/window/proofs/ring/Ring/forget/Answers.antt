use Rattle.window.proofs.CellLaws.{cell_forgotten}
use Rattle.window.proofs.ring.Ring.forget.Goals as goal

pub returns-clause-known : goal.returns-clause-known
returns-clause-known c k =
    let ring = c.args.self.now in
    cell_forgotten ring.bytes.items ring.known.words.items c.put.new.self.words.items c.args.at c.args.count k (c.put.ensures.bits k)
