use Rattle.std.proofs.Common.{◌≡◌, ◌+◌, ◌-◌, Bool, ◌&&◌, sym, ap, ◌∙◌, arith}
use Rattle.window.specs.Cells.{cells}
use Rattle.window.specs.Known.{none_known}
use Rattle.window.specs.Window.{width}
use Rattle.window.proofs.RingLaws.{none_runs}
use Rattle.window.proofs.WindowLaws.{knows_is, window_runs}
use Rattle.window.proofs.Window.none_known.Goals as goal

pub returns-then-place-self : goal.returns-then-place-self
unfolding none_known
returns-then-place-self c =
    let w = c.args.self.now in
    let none : w.low + width w - c.args.from ≡ 0 = omega arith in
    rw none

pub returns-then-none_known : goal.returns-then-none_known
returns-then-none_known c =
    let w = c.args.self.now in
    let place = c.max-place.result in
    let count = c.len-2.result - (place - w.low) in
    let at = c.locate-at.result.0 in
    let first = c.locate-at.result.1 in
    let runs = window_runs w place count at first c.locate-at.ensures.at c.locate-at.ensures.first (record { above = λ h. omega arith; below = λ h. omega arith }) in
    let one = sym c.none_known.ensures ∙ c.if-none_known.true in
    rw (knows_is w) (c.none_known-then-none_known.ensures ∙ ap (λ (a : Bool). a && none_known (count - first) 0 (cells w.ring)) (sym one)
    ∙ none_runs (width w) w.low c.args.from place count at first (cells w.ring) runs (omega arith) (omega arith))

pub returns-else-none_known : goal.returns-else-none_known
returns-else-none_known c =
    let w = c.args.self.now in
    let place = c.max-place.result in
    let count = c.len-2.result - (place - w.low) in
    let at = c.locate-at.result.0 in
    let first = c.locate-at.result.1 in
    let runs = window_runs w place count at first c.locate-at.ensures.at c.locate-at.ensures.first (record { above = λ h. omega arith; below = λ h. omega arith }) in
    let one = sym c.none_known.ensures ∙ c.if-none_known.false in
    rw (knows_is w) (c.if-none_known.false ∙ ap (λ (a : Bool). a && none_known (count - first) 0 (cells w.ring)) (sym one)
    ∙ none_runs (width w) w.low c.args.from place count at first (cells w.ring) runs (omega arith) (omega arith))
