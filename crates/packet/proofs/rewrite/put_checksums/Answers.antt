use Rattle.std.proofs.Common.{◌≡◌, ◌+◌, ◌-◌, ◌++◌, length, drop, refl, ap, ◌∙◌, rules}
use Rattle.std.proofs.lemmas.List.{places}
use Rattle.packet.specs.Bytes.{Bytes, write16}
use Rattle.packet.specs.Checksum.{fresh}
use Rattle.packet.specs.Packet.{pseudo}
use Rattle.packet.proofs.BytesLaws.{put16_is}
use Rattle.packet.proofs.CheckLaws.{seal_is}
use Rattle.packet.proofs.rewrite.put_checksums.Goals as goal

pub returns : goal.returns
returns c = λ bs long sum header.
    let head = c.args.head.now in
    let clear = write16 10 0 (write16 36 0 head) in
    let half = put16_is 36 0 head head _ _ (search (rules, places)) refl refl c.put.ensures in
    let cleared : c.put-2.new.bytes ≡ clear = put16_is 10 0 c.put.new.bytes _ _ _ (search (rules, places)) half refl c.put-2.ensures in
    let segment : c.segment_checksum-segment.result ≡ fresh (pseudo clear (length clear - 20 + length bs) ++ (drop 20 clear ++ bs)) =
    c.segment_checksum-segment.ensures bs long sum ∙ ap (λ (x : Bytes). fresh (pseudo x (length x - 20 + length bs) ++ (drop 20 x ++ bs))) cleared in
    let sized = put16_is 36 c.segment_checksum-segment.result c.put-2.new.bytes _ _ _ (search (rules, places)) cleared c.to_be_bytes.ensures c.put-3.ensures in
    let after = put16_is 10 c.args.header c.put-3.new.bytes _ _ _ (search (rules, places)) sized c.to_be_bytes-2.ensures c.put-4.ensures in
    ap (λ (x : Bytes). x ++ bs) after ∙ seal_is head bs c.args.header c.segment_checksum-segment.result header segment
