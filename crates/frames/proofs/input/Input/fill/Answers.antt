use Rattle.std.proofs.Common.{List, ◌++◌, take, drop, ap, ◌∙◌}
use Rattle.frames.proofs.TakeLaws.{filled_some, filled_long, size_there}
use Rattle.frames.proofs.input.Input.fill.Goals as goal

pub returns : goal.returns
returns g c =
    let v = c.compact.new.self in
    let n = c.in_ok-count.count in
    let ws = c.read_behind.new.buffer in
    let e = c.in_ok-count.ensures in
    let same = c.compact.ensures.same in
    record {
      more = take n (drop v.end ws);
      many = filled_long v c.deref_mut.result.now ws c.deref_mut.ensures.value c.read_behind.auto.buffer e.same n e.count;
      left = filled_some v c.deref_mut.result.now ws c.deref_mut.ensures.value c.read_behind.auto.buffer e.same n e.count ∙ ap (λ (t : List _). t ++ take n (drop v.end ws)) same.left;
      offset = same.offset;
      size = size_there v c.deref_mut.result.now ws c.deref_mut.ensures.value c.read_behind.auto.buffer e.same ∙ same.size;
    }
