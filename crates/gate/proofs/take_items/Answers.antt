use Rattle.frames.proofs.TakeLaws.{lent_within}
use Rattle.gate.proofs.take_items.Goals as goal

pub invariant_of-input : goal.invariant_of-input
invariant_of-input c =
    let i = c.next_item.new.self in
    record { forward = i.forward; within = lent_within i c.deref_mut.result.now c.take_packet.new.buffer c.deref_mut.ensures.value c.take_packet.auto.buffer }
