-- What the gate's values stand for. Assumes nothing.
use Rattle.std.specs.Prelude.{◌≡◌, ℕ, ◌≤◌, Bool, false, List, [], length, take, drop, Ok, Err, Result, nat_lt, slice_index_or}
use Rattle.std.specs.declared.ops.Range.{Range}
use Rattle.std.specs.List.{between}
use Rattle.packet.specs.Bytes.{Bytes}
use Rattle.packet.specs.Packet.{Packet}
use Rattle.packet.specs.Reads as reads
use Rattle.sequence.specs.declared.Place.{Place}
use Rattle.sequence.specs.declared.Place.TheVariants.{At, Below}
use Rattle.window.specs.Window.{width}
use Rattle.stream.specs.Shown.{Stands}
use Rattle.stream.specs.Steps.{Arrival, run}
use Rattle.stream.specs.Stream.{blank}
use Rattle.filter.specs.Config.{Config, Key}
use Rattle.filter.specs.declared.side.Side.TheVariants.{Looms, Outside}
use Rattle.filter.specs.Decide.{acknowledges, on_segment, reset_to_loom, reset_to_sender}
use Rattle.filter.specs.Gate.{Connection, closed}
use Rattle.filter.specs.Verdict.{Refuse, Shut, Update}
use Rattle.filter.specs.declared.connection.Connection.{Connection as Value}
use Rattle.filter.specs.declared.dropped.Refusal.{Refusal}
use Rattle.filter.specs.declared.dropped.Refusal.TheVariants as refusal
use Rattle.filter.specs.declared.dropped.Dropped.{Dropped}
use Rattle.filter.specs.declared.dropped.Dropped.TheVariants as dropped

-- the number of each refusal
abbrev pub refusal_number : Refusal → ℕ
refusal_number (refusal.Unread why) = reads.refusal_number why
refusal_number refusal.NotBegun = 5
refusal_number refusal.TooMany = 6
refusal_number refusal.OpensWithBytes = 7
refusal_number refusal.Shut = 8
refusal_number refusal.Empty = 9

-- the value has the model's numbers, and its stream stands for all that came to it since it began
pub record Held (c : Config) (m : Connection) (v : Value) : Type 0 where
  pub first : v.first ≡ m.first
  pub opening : v.opening ≡ m.opening
  pub last_ack : v.last_ack ≡ m.last_ack
  pub left : v.left ≡ m.left
  pub wide : width v.stream.window ≡ c.width
  pub before : List Arrival
  pub history : m.stream ≡ run c.width c.words blank before
  pub stands : Stands c.words before v.stream

-- the part of the lent buffer that goes out, or why none does
abbrev pub Forwarded : Type 0
Forwarded = Result (Range ℕ) Dropped

-- a segment of the sender's is handled as decided, where these bytes are left in the lent buffer
abbrev pub Handles : Config → Key → Connection → Packet → Bytes → Value → Forwarded → Type 0
Handles c k m p bytes v (Ok out) = (m' : Connection) × (on_segment c k m p ≡ Update k m' Looms (between out.start out.end bytes)) × Held c m' v
Handles c k m p bytes v (Err (dropped.Refused why)) = (on_segment c k m p ≡ Refuse (refusal_number why)) × Held c m v
Handles c k m p bytes v (Err (dropped.Word w)) =
    (on_segment c k m p ≡ Shut k (closed m) (reset_to_loom k m) (reset_to_sender k m) (record { place = w.place; word = slice_index_or c.words w.word [] })) × Held c (closed m) v

-- what is left in the lent buffer: outside the part that goes out it is as it came
abbrev pub Left : Bytes → Bytes → Forwarded → Type 0
Left came bytes (Ok out) = (out.start ≤ out.end) × (out.end ≤ length came) × (take out.start bytes ≡ take out.start came) × (drop out.end bytes ≡ drop out.end came)
Left came bytes (Err why) = bytes ≡ came

-- is a place above a limit
abbrev pub above : Place → ℕ → Bool
above (At i) limit = nat_lt limit i
above (Below n) limit = false

-- a packet of the loom's that acknowledges is handled as decided
abbrev pub Acknowledges : Config → Key → Connection → Packet → Bytes → Value → Range ℕ → Type 0
Acknowledges c k m p bytes v out = (m' : Connection) × (acknowledges c k m p ≡ Update k m' Outside (between out.start out.end bytes)) × Held c m' v
