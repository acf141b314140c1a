-- What the gate is set to, its two sides, and the stream that a packet is of. Assumes nothing.
use Rattle.std.specs.Prelude.{ℕ, Bool, ◌&&◌, List, ◌==◌}
use Rattle.automaton.specs.Text.{Text}
use Rattle.packet.specs.Packet.{Packet}
use Rattle.filter.specs.declared.side.Side.{Side}
use Rattle.filter.specs.declared.side.Side.TheVariants.{Outside, Looms}

-- width: of the window; quiet: the ticks without a packet after which a stream is ended
pub record Config : Type 0 where
  pub width : ℕ
  pub quiet : ℕ
  pub words : List Text

abbrev pub opposite : Side → Side
opposite Outside = Looms
opposite Looms = Outside

-- a stream: address and port of the sender, outside, and of the loom, inside
pub record Key : Type 0 where
  pub sender : ℕ
  pub sender_port : ℕ
  pub loom : ℕ
  pub loom_port : ℕ

abbrev pub same_key : Key → Key → Bool
same_key k l = k.sender == l.sender && (k.sender_port == l.sender_port && (k.loom == l.loom && k.loom_port == l.loom_port))

-- the stream of a packet that came from a side
abbrev pub key_from : Side → Packet → Key
key_from Outside p = record { sender = p.source; sender_port = p.source_port; loom = p.destination; loom_port = p.destination_port }
key_from Looms p = record { sender = p.destination; sender_port = p.destination_port; loom = p.source; loom_port = p.source_port }
