use Rattle.std.proofs.Common.{◌∙◌, arith}
use Rattle.automaton.proofs.Looks.{state_in}
use Rattle.automaton.proofs.table.Table.look.Goals as goal
use Rattle.automaton.proofs.table.Table.look.Goals.{then-from-len, else-from-len}

pub returns-clause-finds : goal.returns-clause-finds
returns-clause-finds c = λ ws t h e. rw (c.deref.ensures.value, c.deref-2.ensures.value) at c.scan.ensures.finds ws t h (elim c.if-from-len.branch [
  | then-from-len w ↦ w.start-is ∙ e
  | else-from-len w ↦ absurd (omega (arith, state_in ws _ _ c.args.state t h e, w.if-from-len.false, c.from.ensures, c.len.ensures, c.args.self.now.states.tells.ok.0))
])
