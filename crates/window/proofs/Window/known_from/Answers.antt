use Rattle.std.proofs.Common.{◌≡◌, ◌-◌, false, sym, arith}
use Rattle.std.proofs.lemmas.List.{append-nil}
use Rattle.window.specs.Cells.{cells}
use Rattle.window.specs.Known.{inside}
use Rattle.window.specs.Window.{knows, width}
use Rattle.window.proofs.KnownLaws.{inside_below, inside-above, onwards-none}
use Rattle.window.proofs.RingLaws.{known_first, known_both}
use Rattle.window.proofs.WindowLaws.{knows_is, knows_outside, window_runs}
use Rattle.window.proofs.Window.known_from.Goals as goal
use Rattle.window.proofs.Window.known_from.Goals.{then-from-self-via-then-from-self, then-from-self-via-else-from-self+then-from-self-2}

pub returns-then-from-self : goal.returns-then-from-self
returns-then-from-self c =
    let w = c.args.self.now in
    let from = c.args.from in
    let out : inside w.low (width w) from ≡ false = elim c.then-from-self.branch [
      | then-from-self-via-then-from-self v ↦ inside_below w.low (width w) from (omega arith)
      | then-from-self-via-else-from-self+then-from-self-2 v ↦ inside-above w.low (width w) from (omega arith)
    ] in
    sym (onwards-none (width w) from (knows w) (knows_outside w from out))

pub returns-then-front-first : goal.returns-then-front-first
returns-then-front-first c =
    let w = c.args.self.now in
    let from = c.args.from in
    let count = c.len-2.result - (from - w.low) in
    let at = c.locate-at.result.0 in
    let first = c.locate-at.result.1 in
    let runs = window_runs w from count at first c.locate-at.ensures.at c.locate-at.ensures.first (record { above = λ h. omega arith; below = λ h. omega arith }) in
    rw (knows_is w, append-nil, c.known_from-front.ensures) (known_first (width w) w.low from count at first (cells w.ring) runs (omega arith) (omega arith) (rw c.known_from-front.ensures at c.if-front-first.true))

pub returns : goal.returns
returns c =
    let w = c.args.self.now in
    let from = c.args.from in
    let count = c.len-2.result - (from - w.low) in
    let at = c.locate-at.result.0 in
    let first = c.locate-at.result.1 in
    let runs = window_runs w from count at first c.locate-at.ensures.at c.locate-at.ensures.first (record { above = λ h. omega arith; below = λ h. omega arith }) in
    rw (knows_is w, c.known_from-front.ensures, c.known_from.ensures) (known_both (width w) w.low from count at first (cells w.ring) runs (omega arith) (omega arith) (rw c.known_from-front.ensures at c.if-front-first.false))
