use Rattle.std.proofs.Common.{◌≡◌, ◌+◌, ◌-◌, ◌≤◌, length}
use Rattle.window.specs.Cells.{cells}
use Rattle.window.specs.Ring.{Overlaid}
use Rattle.window.proofs.ring.Ring.overlay.Given as goal

-- the bytes of the cells that were passed are overlaid
abbrev pub invariant-loop-start : goal.invariant-loop-start
invariant-loop-start l = record {
  can : (goal.iterator-loop-start).can_next l.start-iterator;
  finite : (goal.iterator-loop-start).is_finite l.start-iterator;
  bits : l.start-iterator.bits.now ≡ l.self.known;
  end : l.start-iterator.end ≡ l.at + length l.fn.part;
  from : l.at ≤ l.start-iterator.next;
  size : length l.part ≡ length l.fn.part;
  done : Overlaid (cells l.self) l.at (l.start-iterator.next - l.at) l.fn.part l.part;
}
