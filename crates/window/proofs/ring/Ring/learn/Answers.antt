use Rattle.std.proofs.Common.{◌≡◌, ◌+◌, ◌-◌, List, ℕ, ◌++◌, take, length, vec_len, inl, inr, rules}
use borrow.Rule.Slice.PartMut.{post_of}
use Rattle.std.proofs.lemmas.List.{places, with_items_is}
use Rattle.window.proofs.CellLaws.{cell_written}
use Rattle.window.proofs.ring.Ring.learn.Goals as goal

pub returns-clause-known : goal.returns-clause-known
returns-clause-known c k =
    let ring = c.args.self.now in
    let at = c.args.at in
    let old = c.deref_mut.result.now in
    let new : List ℕ = take at old ++ (c.copy_from_slice.new.self ++ post_of at (at + length c.args.part.now - at) old) in
    let size : length new ≡ vec_len ring.bytes = search (rules, places) in
    rw (with_items_is ring.bytes new size) (cell_written ring.bytes.items ring.known.words.items new c.put.new.self.words.items at k c.args.part.now
    (λ h l. search (rules, places)) (λ o. elim o [ inl l ↦ search (rules, places) | inr l ↦ search (rules, places) ]) (c.put.ensures.bits k))
