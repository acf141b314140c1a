use Rattle.std.proofs.Common.{◌≡◌, ◌+◌, ◌-◌, ◌≤◌, length}
use Rattle.window.specs.Cells.{cells}
use Rattle.window.specs.Ring.{Agrees}
use Rattle.window.proofs.ring.Ring.agrees.Given as goal

-- the bytes of the cells that were passed are those that are known
abbrev pub invariant-loop-start : goal.invariant-loop-start
invariant-loop-start l = record {
  can : (goal.iterator-loop-start).can_next l.start-iterator;
  finite : (goal.iterator-loop-start).is_finite l.start-iterator;
  bits : l.start-iterator.bits.now ≡ l.self.known;
  end : l.start-iterator.end ≡ l.at + length l.part;
  from : l.at ≤ l.start-iterator.next;
  done : Agrees (cells l.self) l.at (l.start-iterator.next - l.at) l.part;
}
