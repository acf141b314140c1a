use Rattle.window.proofs.ring.Ring.len.Goals as goal

pub returns-clause-round : goal.returns-clause-round
returns-clause-round c = rw c.len.ensures c.args.self.now.round
