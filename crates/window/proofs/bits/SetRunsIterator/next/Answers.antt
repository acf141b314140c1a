use Rattle.std.proofs.Common.{refl}
use Rattle.window.proofs.BitLaws.{no_run, set_run}
use Rattle.window.proofs.bits.SetRunsIterator.next.Goals as goal

pub returns-then-start-self-clause-steps : goal.returns-then-start-self-clause-steps
returns-then-start-self-clause-steps c =
    let s = c.args.self.now in
    (refl, refl, no_run s.bits.now.words.items s.next s.end c.run.result s.ordered c.run.ensures c.if-start-self.true)

pub returns-clause-steps : goal.returns-clause-steps
returns-clause-steps c =
    let s = c.args.self.now in
    (refl, refl, (set_run s.bits.now.words.items s.next s.end c.run.result s.ordered c.run.ensures c.run-2.result c.if-start-self.false c.run-2.ensures, refl))
