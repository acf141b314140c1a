use Rattle.std.proofs.Common.{vec_items, refl}
use Rattle.frames.proofs.TakeLaws.{took}
use Rattle.frames.proofs.input.Input.next_item.Goals as goal

pub returns-in-Ok : goal.returns-in-Ok
returns-in-Ok c =
    let i = c.args.self.now in
    let t = took (vec_items i.buffer) i.start i.end i.forward i.within c.deref.result.now c.in-Ok.item c.place.result c.in-Ok.taken c.deref.ensures.value c.place.ensures c.in-Ok.ensures in
    (c.in-Ok.taken, record { event = t.reads; at = t.placed; inside = t.inside; read = record { left = t.left; within = t.within; offset = refl; buffer = refl }; fewer = t.fewer })
