use Rattle.std.proofs.Common.{Ok, subst, arith}
use Rattle.std.proofs.lemmas.Bool.Decides.{nat_tests}
use Rattle.std.proofs.lemmas.Result.{err_from_is_err_and}
use Rattle.packet.specs.Bytes.{byte}
use Rattle.frames.specs.Items.{item}
use Rattle.frames.specs.Kinds.{KindOf}
use Rattle.frames.specs.declared.read.Kind.{Kind}
use Rattle.frames.proofs.ItemLaws.{reads_packet, reads_ticks, reads_unknown}
use Rattle.frames.proofs.item.Item.read.Goals as goal

pub returns-in_default : goal.returns-in_default
unfolding item
returns-in_default c = grind (arith, nat_tests)

pub returns-in-Packet : goal.returns-in-Packet
returns-in-Packet c =
    reads_packet c.args.bytes.now c.read_packet.result
    (subst (λ (k : Kind). KindOf (byte 0 c.args.bytes.now) (Ok k)) c.in-Packet.is c.in_ok-try_from.ensures) c.read_packet.ensures

pub returns-in-Ticks : goal.returns-in-Ticks
returns-in-Ticks c =
    reads_ticks c.args.bytes.now c.read_ticks.result
    (subst (λ (k : Kind). KindOf (byte 0 c.args.bytes.now) (Ok k)) c.in-Ticks.is c.in_ok-try_from.ensures) c.read_ticks.ensures

pub returns-in-Config : goal.returns-in-Config
unfolding item
returns-in-Config c =
    let three = subst (λ (k : Kind). KindOf (byte 0 c.args.bytes.now) (Ok k)) c.in-Config.is c.in_ok-try_from.ensures in
    grind (arith, nat_tests)

pub returns-in_err-try_from : goal.returns-in_err-try_from
returns-in_err-try_from c =
    let p = err_from_is_err_and c.from_residual.result c.from_residual.ensures.1 in
    rw (p.1, p.2) (reads_unknown c.args.bytes.now c.in_err-try_from.field-0.0 c.in-len1-up.len_at_least c.in_err-try_from.ensures)
