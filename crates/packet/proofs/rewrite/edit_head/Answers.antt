use Rattle.std.proofs.Common.{set, refl, rules}
use Rattle.std.proofs.lemmas.List.{places}
use Rattle.packet.proofs.BytesLaws.{put16_is, put32_is}
use Rattle.packet.proofs.rewrite.edit_head.Goals as goal

pub returns : goal.returns
returns c =
    let edit = c.args.edit in
    let marked = set c.args.head.now 33 edit.marks in
    let acked = put32_is 28 edit.acknowledged marked marked _ _ (search (rules, places)) refl c.to_be_bytes.ensures c.put.ensures in
    let numbered = put32_is 24 edit.number c.put.new.bytes _ _ _ (search (rules, places)) acked c.to_be_bytes-2.ensures c.put-2.ensures in
    put16_is 2 c.args.total c.put-2.new.bytes _ _ _ (search (rules, places)) numbered c.to_be_bytes-3.ensures c.put-3.ensures
