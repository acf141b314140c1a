use Rattle.std.proofs.Common.{refl, ◌∙◌, arith}
use Rattle.std.proofs.lemmas.Bool.Decides.{nat_tests}
use Rattle.std.proofs.lemmas.Result.{err_from_is_err_and}
use Rattle.packet.specs.Bytes.{byte}
use Rattle.frames.specs.Items.{packet_item}
use Rattle.frames.proofs.ItemLaws.{packet-read, side_is}
use Rattle.frames.proofs.read.read_packet.Goals as goal

pub returns-in_default : goal.returns-in_default
unfolding packet_item
returns-in_default c = grind (arith, nat_tests)

pub returns-in_err-side : goal.returns-in_err-side
unfolding packet_item
returns-in_err-side c =
    let p = err_from_is_err_and c.from_residual.result c.from_residual.ensures.1 in
    let above = c.in_err-side.ensures.0 in
    rw (p.1, p.2) (grind (arith, nat_tests))

pub returns-in_default-bytes : goal.returns-in_default-bytes
unfolding packet_item
returns-in_default-bytes c =
    let within = (side_is (byte 1 c.args.bytes.now) c.in_ok-side.side c.in_ok-side.ensures).0 in
    grind (arith, nat_tests)

pub returns-then-end-bytes : goal.returns-then-end-bytes
unfolding packet_item
returns-then-end-bytes c =
    let within = (side_is (byte 1 c.args.bytes.now) c.in_ok-side.side c.in_ok-side.ensures).0 in
    grind (arith, nat_tests)

pub returns : goal.returns
returns c =
    let side = side_is (byte 1 c.args.bytes.now) c.in_ok-side.side c.in_ok-side.ensures in (
      packet-read c.args.bytes.now c.in_ok-side.side c.from-end.result side.0 side.1 (c.from-end.ensures ∙ c.from_be_bytes.ensures) c.if-end-bytes.false,
      (refl, omega arith, omega arith),
      omega arith,
      c.if-end-bytes.false,
    )
