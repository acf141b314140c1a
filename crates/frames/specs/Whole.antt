-- The whole input: what stands in it, how it is written, and how it is read block by block. Assumes nothing.
use Rattle.std.specs.Prelude.{◌≡◌, ℕ, zero, suc, ◌+◌, ◌/◌, ◌%◌, ◌^◌, ◌<◌, ◌≤◌, List, [], ◌∷◌, ◌++◌, length, drop, Some, None, Ok, Err, Option, Result, ◌≢◌}
use Rattle.automaton.specs.Lists.{Valid, written}
use Rattle.automaton.specs.Text.{Text}
use Rattle.packet.specs.Bytes.{Bytes, byte}
use Rattle.filter.specs.Config.{Config as Settings}
use Rattle.filter.specs.declared.side.Side.{Side}
use Rattle.filter.specs.declared.side.Side.TheVariants.{Outside, Looms}
use Rattle.filter.specs.Verdict.{Event, Comes, Ticks}
use Rattle.frames.specs.Items.{ReadEvent, item, refusal_number}
use Rattle.frames.specs.Configs.{ReadSettings, configuration}
use Rattle.fault.specs.declared.Fault.{Fault}
use Rattle.frames.specs.declared.refusal.Refusal.{Refusal}
use Rattle.frames.specs.declared.refusal.Refusal.TheVariants.{Cut}

-- by which number, and at which byte of the input, the reading ended
pub record Ended : Type 0 where
  pub number : ℕ
  pub at : ℕ

-- events that were read, and the fault at which the reading ended, if any
pub record Events : Type 0 where
  pub events : List Event
  pub fault : Option Ended

abbrev pub nothing : Events
nothing = record { events = []; fault = None }

abbrev pub and_then : Event → Events → Events
and_then e es = record { events = e ∷ es.events; fault = es.fault }

abbrev pub faulty : Refusal → ℕ → Events
faulty why at = record { events = []; fault = Some (record { number = refusal_number why; at = at }) }

abbrev pub taken_of : Result ReadEvent Refusal → ℕ
taken_of (Ok r) = r.taken
taken_of (Err why) = 0

abbrev pub onwards : Result ReadEvent Refusal → ℕ → Events → Events
onwards (Ok r) at later = and_then r.event later
onwards (Err why) at later = faulty why at

-- up to n items, the first of which stands at `at`
unfoldable pub read_events : ℕ → ℕ → Bytes → Events
read_events zero at bs = nothing
read_events (suc n) at [] = nothing
read_events (suc n) at (b ∷ bs) =
    let taken : ℕ = taken_of (item (b ∷ bs)) in
    let later : Events = read_events n (at + taken) (drop taken (b ∷ bs)) in
    onwards (item (b ∷ bs)) at later

-- what the gate is set to, unless a fault stands there already, and the events
pub record Reading : Type 0 where
  pub settings : Option Settings
  pub events : Events

abbrev pub with_events : Bytes → Result ReadSettings (Fault Refusal) → Reading
with_events bs (Ok r) = record { settings = Some r.settings; events = read_events (length bs) r.taken (drop r.taken bs) }
with_events bs (Err f) = record { settings = None; events = faulty f.refusal f.at }

-- the whole input: the configuration, then items up to the end or the first fault
abbrev pub read_all : Bytes → Reading
read_all bs = with_events bs (configuration bs)

-- How it is written

abbrev pub two : ℕ → Bytes
two n = (n / 256 % 256) ∷ (n % 256) ∷ []

abbrev pub four : ℕ → Bytes
four n = two (n / 65536) ++ two n

abbrev pub side_byte : Side → ℕ
side_byte Outside = 0
side_byte Looms = 1

abbrev pub written_event : Event → Bytes
written_event (Comes side p) = 1 ∷ side_byte side ∷ (two (length p) ++ p)
written_event (Ticks n) = 2 ∷ four n

unfoldable pub written_events : List Event → Bytes
written_events [] = []
written_events (e ∷ es) = written_event e ++ written_events es

-- an event whose numbers fit
abbrev pub Fits : Event → Type 0
Fits (Comes side p) = length p < 65536
Fits (Ticks n) = n < 2 ^ 32

unfoldable pub AllFit : List Event → Type 0
AllFit [] = Unit {0}
AllFit (e ∷ es) = Fits e × AllFit es

abbrev pub written_config : ℕ → ℕ → List Text → Bytes
written_config power quiet ws = 3 ∷ power ∷ (four quiet ++ written ws)

-- What is promised of the input. Each is a type; a term of it is its proof.

-- More bytes change no answer, but that an item is cut.
abbrev pub SettledItem : Result ReadEvent Refusal → Type 0
SettledItem (Ok r) = Unit {0}
SettledItem (Err why) = why ≡ Cut → ⊥

abbrev pub ItemReadsOn : Type 0
ItemReadsOn = (bs more : Bytes) → SettledItem (item bs) → item (bs ++ more) ≡ item bs

abbrev pub SettledConfig : Result ReadSettings (Fault Refusal) → Type 0
SettledConfig (Ok r) = Unit {0}
SettledConfig (Err f) = f.refusal ≡ Cut → ⊥

abbrev pub ConfigReadsOn : Type 0
ConfigReadsOn = (bs more : Bytes) → SettledConfig (configuration bs) → configuration (bs ++ more) ≡ configuration bs

-- What is cut is short: there is always room for more of it in the buffer.
abbrev pub CutIsShort : Type 0
CutIsShort =
    (bs : Bytes) → ((i : ℕ) → byte i bs < 256) →
    (item bs ≡ Err Cut → length bs ≤ 65538) × ((at : ℕ) → configuration bs ≡ Err (record { refusal = Cut; at = at }) → length bs ≤ 4231)

-- What was written is read back.
abbrev pub ReadsBack : Type 0
ReadsBack =
    (power quiet : ℕ) (ws : List Text) (es : List Event) → 10 ≤ power → power ≤ 16 → quiet < 2 ^ 32 → Valid ws → AllFit es →
    read_all (written_config power quiet ws ++ written_events es) ≡ record { settings = Some (record { width = 2 ^ power; quiet = quiet; words = ws }); events = record { events = es; fault = None } }

-- Reading block by block. `left` came and is not read yet, from the byte `at` on; `rest` is still to come.
pub data Takes : ℕ → Bytes → Bytes → Events → Type 0 where
  -- a block comes
  comes : {at : ℕ} {left rest : Bytes} {out : Events} (block : Bytes) → Takes at (left ++ block) rest out → Takes at left (block ++ rest) out
  -- an item is read
  reads : {at : ℕ} {left rest : Bytes} {out : Events} (r : ReadEvent) → item left ≡ Ok r → Takes (at + r.taken) (drop r.taken left) rest out → Takes at left rest (and_then r.event out)
  -- a fault is met
  stops : {at : ℕ} {left rest : Bytes} (why : Refusal) → item left ≡ Err why → (why ≢ Cut) → Takes at left rest (faulty why at)
  -- the input ends behind an item, or within one
  ends : {at : ℕ} → Takes at [] [] nothing
  breaks : {at : ℕ} {left : Bytes} → item left ≡ Err Cut → 0 < length left → Takes at left [] (faulty Cut at)

-- the same of the whole input, of which `left` is the front
pub data Opens : Bytes → Bytes → Reading → Type 0 where
  arrives : {left rest : Bytes} {out : Reading} (block : Bytes) → Opens (left ++ block) rest out → Opens left (block ++ rest) out
  opens : {left rest : Bytes} {out : Events} (r : ReadSettings) → configuration left ≡ Ok r → Takes r.taken (drop r.taken left) rest out → Opens left rest (record { settings = Some r.settings; events = out })
  fails : {left rest : Bytes} (f : Fault Refusal) → configuration left ≡ Err f → (f.refusal ≢ Cut) → Opens left rest (record { settings = None; events = faulty f.refusal f.at })
  lacks : {left : Bytes} (f : Fault Refusal) → configuration left ≡ Err f → Opens left [] (record { settings = None; events = faulty f.refusal f.at })

-- However the input comes in blocks, and however much of it is read before the next block comes: what is read is what stands in the whole.
abbrev pub BlocksRead : Type 0
BlocksRead = (bs : Bytes) (out : Reading) → Opens [] bs out → out ≡ read_all bs
