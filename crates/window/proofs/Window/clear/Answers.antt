use Rattle.std.proofs.Common.{◌%◌, ◌<◌, ◌∙◌, inl, inr, arith}
use Rattle.std.proofs.lemmas.Nat.{mod_below}
use Rattle.window.specs.Cells.{cells}
use Rattle.window.specs.Window.{width}
use Rattle.window.specs.declared.Window.{Window}
use Rattle.window.proofs.KnownLaws.{inside_cases, inside_from}
use Rattle.window.proofs.RingLaws.{seen-inside}
use Rattle.window.proofs.WindowLaws.{knows_is, knows_outside}
use Rattle.window.proofs.Window.clear.Goals as goal

pub returns-clause-known : goal.returns-clause-known
returns-clause-known c i =
    let new : Window = record { ring = c.forget.new.self; low = 0 } in
    let cell : i % width new < c.len-cells.result = omega (arith, c.forget.ensures.size, mod_below i (width new) (omega (arith, new.ring.least))) in
    elim (inside_cases 0 (width new) i) [
      | inl t ↦ rw (knows_is new) (seen-inside (width new) 0 (cells new.ring) i t.1 t.2 ∙ c.forget.ensures.known (i % width new) ∙ rw (inside_from 0 c.len-cells.result (i % width new) (omega arith) (omega arith)))
      | inr t ↦ knows_outside new i t.0
    ]
