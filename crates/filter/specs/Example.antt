-- A run of packets that meets what the promise asks for: a stream begins, bytes pass, it is shut for a word; another one begins anew. Assumes nothing.
use Rattle.std.specs.Prelude.{◌≡◌, ℕ, ◌+◌, true, List, [], ◌∷◌, length, slice_set}
use Rattle.packet.specs.Bytes.{Bytes, write16, write32}
use Rattle.packet.specs.Packet.{reset_head, seal}
use Rattle.window.specs.Known.{piece}
use Rattle.filter.specs.Config.{Config, Key}
use Rattle.filter.specs.declared.side.Side.TheVariants.{Outside, Looms}
use Rattle.filter.specs.Gate.{empty}
use Rattle.filter.specs.Verdict.{Event, Comes}
use Rattle.filter.specs.Decide.{next, run}
use Rattle.filter.specs.Promise.{Begins, Stays, stream_of, passed}

-- a packet of this number, acknowledged number, marks and payload
abbrev pub packet_of : ℕ → ℕ → ℕ → ℕ → ℕ → ℕ → ℕ → Bytes → Bytes
packet_of source source_port destination destination_port number acknowledged marks payload =
    seal (write16 2 (40 + length payload) (write32 12 source (write32 16 destination (write16 20 source_port (write16 22 destination_port
    (write32 24 number (write32 28 acknowledged (slice_set reset_head 33 marks)))))))) payload

abbrev pub sent : ℕ → ℕ → ℕ → Bytes → Event
sent number acknowledged marks payload = Comes Outside (packet_of 11 4000 22 80 number acknowledged marks payload)

abbrev pub replied : ℕ → ℕ → ℕ → Bytes → Event
replied number acknowledged marks payload = Comes Looms (packet_of 22 80 11 4000 number acknowledged marks payload)

-- the word ab, 16 places, 5 ticks
abbrev pub config : Config
config = record { width = 16; quiet = 5; words = (97 ∷ 98 ∷ []) ∷ [] }

abbrev pub key : Key
key = record { sender = 11; sender_port = 4000; loom = 22; loom_port = 80 }

-- SYN and ACK of the loom; place 0 has the number 500
abbrev pub opening : Event
opening = replied 900 500 18 []

-- xa at place 0, acknowledged by the loom, then b at place 2
abbrev pub later : List Event
later = sent 500 901 16 (120 ∷ 97 ∷ []) ∷ replied 901 502 16 [] ∷ sent 502 901 16 (98 ∷ []) ∷ []

pub record Example : Type 0 where
  pub begins : Begins config key empty opening
  pub stays : Stays config key (next config empty opening) later
  pub text : (stream_of key (run config (next config empty opening) later)).text ≡ 120 ∷ 97 ∷ []
  pub low : (stream_of key (run config (next config empty opening) later)).low ≡ 2
  pub shut : (stream_of key (run config (next config empty opening) later)).shut ≡ true
  pub pieces : passed config key (next config empty opening) later ≡ piece 0 (120 ∷ 97 ∷ []) ∷ []
  pub anew : Begins config key (next config empty opening) (replied 950 700 18 [])
