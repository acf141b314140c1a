use Rattle.std.proofs.Common.{arith}
use Rattle.packet.specs.Packet.{too_long}
use Rattle.packet.proofs.ReadLaws.{start_none, start_some, Starts}
use Rattle.packet.proofs.read.Datagram.is_too_long.Goals as goal

pub returns-in_default : goal.returns-in_default
unfolding too_long
returns-in_default c = rw (start_none c.args.self.now.bytes.now c.in_default.ensures.start)

pub overflow_sub-result : goal.overflow_sub-result
overflow_sub-result c = omega (arith, start_some c.args.self.now.bytes.now c.in-Some.start c.in-Some.ensures.start)

pub returns : goal.returns
unfolding too_long
returns c =
    let s : Starts c.args.self.now.bytes.now c.in-Some.start = start_some c.args.self.now.bytes.now c.in-Some.start c.in-Some.ensures.start in
    rw (s.is, s.at)
