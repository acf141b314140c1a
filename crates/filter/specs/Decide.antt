-- What the gate does with each event, and runs over events. Assumes nothing.
use Rattle.std.specs.Prelude.{ℕ, ◌*◌, ◌/◌, Bool, cond, not, ◌&&◌, List, [], ◌∷◌, length, Some, None, Ok, Err, Option, Result, ◌==◌, nat_le}
use Rattle.automaton.specs.Text.{Text}
use Rattle.packet.specs.Bytes.{Bytes}
use Rattle.packet.specs.Packet.{Packet, read, rewrite, reset}
use Rattle.sequence.specs.declared.Place.{Place}
use Rattle.sequence.specs.declared.Place.TheVariants.{Below, At}
use Rattle.sequence.specs.Places.{number_of, place_of}
use Rattle.stream.specs.Stream.{Stream, ack_limit, acknowledged_to, taken}
use Rattle.stream.specs.Steps.{Segment, piece_of, Outcome, Passed, Empty, Word, Closed, is_empty, outcome}
use Rattle.filter.specs.Config.{Config, Key, key_from}
use Rattle.filter.specs.declared.side.Side.{Side}
use Rattle.filter.specs.declared.side.Side.TheVariants.{Outside, Looms}
use Rattle.filter.specs.Gate.{Connection, begun, active, closed, Gate, find, full}
use Rattle.filter.specs.Verdict.{Event, Comes, Ticks, Verdict, Refuse, Forward, Update, Begin, End, Shut, Elapse, apply, Answer, answer_of}

-- The sender's segment

-- as the stream takes it: its number stands for a place
abbrev pub segment_at : Connection → Packet → Segment
segment_at s p = record { at = place_of s.first s.stream.low p.number; bytes = p.payload; fin = p.fin }

-- the number of what is left: of its first byte, else of its FIN, else as it came
abbrev pub number_left : Connection → Packet → ℕ → Text → Option ℕ → ℕ
number_left s p i (b ∷ bs) fin = number_of s.first i
number_left s p i [] (Some f) = number_of s.first f
number_left s p i [] None = p.number

abbrev pub without_fin : ℕ → ℕ
without_fin marks = marks / 2 * 2

abbrev pub marks_left : Packet → Option ℕ → ℕ
marks_left p None = without_fin p.marks
marks_left p (Some f) = p.marks

-- the packet with what is left: bytes from place i on, and a FIN
abbrev pub packet_left : Connection → Packet → ℕ → Text → Option ℕ → Bytes
packet_left s p i bytes fin = rewrite p (number_left s p i bytes fin) p.acknowledged (marks_left p fin) bytes

-- a segment was passed on: the stream is this then
abbrev pub advanced : Config → Packet → Stream → Connection → Connection
advanced c p stream s =
    record { first = s.first; opening = s.opening; last_ack = cond p.ack p.acknowledged s.last_ack; left = c.quiet; stream = stream }

-- to the loom with the number of the end of the text
abbrev pub reset_to_loom : Key → Connection → Bytes
reset_to_loom k s = reset k.sender k.sender_port k.loom k.loom_port (number_of s.first (length s.stream.text))

-- to the sender with its last acknowledged number
abbrev pub reset_to_sender : Key → Connection → Bytes
reset_to_sender k s = reset k.loom k.loom_port k.sender k.sender_port s.last_ack

-- a segment of which neither a byte nor a FIN is left goes on for its ACK alone
abbrev pub on_outcome : Config → Key → Connection → Packet → Outcome → Verdict
on_outcome c k s p (Passed piece fin) =
    Update k (advanced c p (taken c.width (piece_of (segment_at s p)) fin s.stream) s) Looms (packet_left s p piece.at piece.bytes fin)
on_outcome c k s p Empty = cond p.ack (Update k (advanced c p s.stream s) Looms (packet_left s p 0 [] None)) (Refuse 9)
on_outcome c k s p (Word found) = Shut k (closed s) (reset_to_loom k s) (reset_to_sender k s) found
on_outcome c k s p Closed = Refuse 8

abbrev pub on_segment : Config → Key → Connection → Packet → Verdict
on_segment c k s p = on_outcome c k s p (outcome c.width c.words s.stream (segment_at s p))

-- A packet from the outside

-- SYN and none of FIN, RST, ACK
abbrev pub syn_alone : Packet → Bool
syn_alone p = p.syn && (not p.fin && (not p.rst && not p.ack))

abbrev pub opens : Config → Key → Packet → Option Connection → Verdict
opens c k p None = cond (is_empty p.payload) (Forward Looms p.bytes) (Refuse 7)
opens c k p (Some s) =
    cond (is_empty p.payload) (cond s.stream.shut (Refuse 8) (Update k (active c.quiet s.stream s) Looms p.bytes)) (Refuse 7)

abbrev pub continues : Config → Key → Packet → Option Connection → Verdict
continues c k p None = Refuse 5
continues c k p (Some s) =
    let reset : Verdict = Update k (active c.quiet s.stream s) Looms (packet_left s p 0 [] None) in
    let segment : Verdict = on_segment c k s p in
    cond p.syn (Refuse 5)
    (cond s.stream.shut (Refuse 8)
    (cond p.rst reset segment))

abbrev pub from_outside : Config → Key → Packet → Option Connection → Verdict
from_outside c k p s = cond (syn_alone p) (opens c k p s) (continues c k p s)

-- A packet from a loom

-- the place that it acknowledges
abbrev pub acked_at : Connection → Packet → Place
acked_at s p = place_of s.first s.stream.low p.acknowledged

-- an acknowledged number above the limit is lowered to it
abbrev pub lowered : Connection → Packet → Place → Bytes
lowered s p (Below n) = p.bytes
lowered s p (At i) =
    cond (nat_le i (ack_limit s.stream)) p.bytes (rewrite p p.number (number_of s.first (ack_limit s.stream)) p.marks p.payload)

abbrev pub acknowledges : Config → Key → Connection → Packet → Verdict
acknowledges c k s p =
    let place : Place = acked_at s p in
    Update k (active c.quiet (acknowledged_to place s.stream) s) Outside (lowered s p place)

-- both numbers are those of the beginning in force
abbrev pub same_beginning : Connection → Packet → Bool
same_beginning s p = s.opening == p.number && s.first == p.acknowledged

abbrev pub beginning : Config → Key → Packet → Verdict
beginning c k p = Begin k (begun c.quiet p.number p.acknowledged) p.bytes

-- a reset without its bytes
abbrev pub bare_reset : Packet → Bytes
bare_reset p = rewrite p p.number p.acknowledged p.marks []

abbrev pub from_loom : Config → Key → Packet → Bool → Option Connection → Verdict
from_loom c k p no_room None =
    cond p.rst (Forward Outside (bare_reset p))
    (cond (p.syn && p.ack)
    (cond no_room (Refuse 6) (beginning c k p))
    (Forward Outside p.bytes))
from_loom c k p no_room (Some s) =
    let again : Verdict = Update k (active c.quiet s.stream s) Outside p.bytes in
    let acked : Verdict = acknowledges c k s p in
    cond s.stream.shut (Refuse 8)
    (cond p.rst (End k (bare_reset p))
    (cond (p.syn && p.ack)
    (cond (same_beginning s p) again (beginning c k p))
    (cond p.ack acked again)))

-- SYN of a loom's, without ACK and RST, that carries bytes
abbrev pub opens_with_bytes : Packet → Bool
opens_with_bytes p = p.syn && (not p.ack && (not p.rst && not (is_empty p.payload)))

abbrev pub on_packet : Config → Gate → Side → Packet → Verdict
on_packet c g Outside p = from_outside c (key_from Outside p) p (find (key_from Outside p) g)
on_packet c g Looms p = cond (opens_with_bytes p) (Refuse 7) (from_loom c (key_from Looms p) p (full g) (find (key_from Looms p) g))

abbrev pub on_read : Config → Gate → Side → Result Packet ℕ → Verdict
on_read c g side (Ok p) = on_packet c g side p
on_read c g side (Err n) = Refuse n

abbrev pub verdict : Config → Gate → Event → Verdict
verdict c g (Comes side p) = on_read c g side (read p)
verdict c g (Ticks n) = Elapse n

-- Steps and runs

abbrev pub next : Config → Gate → Event → Gate
next c g e = apply (verdict c g e) g

abbrev pub answer : Config → Gate → Event → Answer
answer c g e = answer_of (verdict c g e)

unfoldable pub run : Config → Gate → List Event → Gate
run c g [] = g
run c g (e ∷ es) = run c (next c g e) es

unfoldable pub answers : Config → Gate → List Event → List Answer
answers c g [] = []
answers c g (e ∷ es) = let v : Verdict = verdict c g e in answer_of v ∷ answers c (apply v g) es
