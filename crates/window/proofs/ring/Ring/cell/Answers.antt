use Rattle.std.proofs.Math.Logic.{∥∥₁_elim}
use Rattle.std.proofs.lemmas.Nat.{and_mask}
use Rattle.std.specs.Coded.{Coded-set, coded_ℕ}
use Rattle.window.proofs.ring.Ring.cell.Goals as goal

pub returns : goal.returns
returns c = ∥∥₁_elim c.args.self.now.round (Coded-set coded_ℕ _ _) (λ (power, round). rw (c.len.ensures, round) (and_mask c.args.place power))
