-- The configuration, the first item of the gate's input, as bytes. Assumes nothing.
use Rattle.std.specs.Prelude.{◌≡◌, ℕ, ◌+◌, ◌^◌, ◌≤◌, length, drop, Ok, Err, Result}
use Rattle.automaton.specs.Lists.{ReadList, word_list}
use Rattle.automaton.specs.ReadList.{texts}
use Rattle.automaton.specs.declared.refusal.ListRefusal.{ListRefusal}
use Rattle.automaton.specs.declared.refusal.ListRefusal.TheVariants as list
use Rattle.packet.specs.Bytes.{Bytes}
use Rattle.filter.specs.Config.{Config as Settings}
use Rattle.frames.specs.Items.{header}
use Rattle.frames.specs.declared.config.Config.{Config}
use Rattle.fault.specs.declared.ReadError.{ReadError}
use Rattle.fault.specs.declared.ReadError.TheVariants as error
use Rattle.fault.specs.declared.Fault.{Fault}
use Rattle.frames.specs.declared.refusal.Refusal.{Refusal}
use Rattle.frames.specs.declared.refusal.Refusal.TheVariants.{Cut, TooMuch, Twice}

-- settings that were read, and how many bytes they took
pub record ReadSettings : Type 0 where
  pub settings : Settings
  pub taken : ℕ

abbrev pub refusal_of : ListRefusal → Refusal
refusal_of list.Cut = Cut
refusal_of list.TooMuch = TooMuch
refusal_of list.Twice = Twice

-- the fault of a list that stands behind the header
abbrev pub fault_of : Fault ListRefusal → Fault Refusal
fault_of f = record { refusal = refusal_of f.refusal; at = 6 + f.at }

abbrev pub with_list : ℕ × ℕ → Result ReadList (Fault ListRefusal) → Result ReadSettings (Fault Refusal)
with_list h (Ok r) = Ok (record { settings = record { width = 2 ^ h.0; quiet = h.1; words = r.words }; taken = 6 + r.taken })
with_list h (Err f) = Err (fault_of f)

abbrev pub with_header : Result (ℕ × ℕ) Refusal → Result ReadList (Fault ListRefusal) → Result ReadSettings (Fault Refusal)
with_header (Ok h) r = with_list h r
with_header (Err e) r = Err (record { refusal = e; at = 0 })

-- a header, and a word list behind it
abbrev pub configuration : Bytes → Result ReadSettings (Fault Refusal)
configuration bs = with_header (header bs) (word_list (drop 6 bs))

abbrev pub settings_of : Config → Settings
settings_of c = record { width = 2 ^ c.power; quiet = c.quiet; words = texts c.words }

-- an answer is what `configuration` gives, unless memory was wanting
abbrev pub ReadsConfig : Bytes → Result (Config × ℕ) (ReadError Refusal) → Type 0
ReadsConfig bs (Ok r) = (configuration bs ≡ Ok (record { settings = settings_of r.0; taken = r.1 })) × (r.1 ≤ length bs)
ReadsConfig bs (Err error.Memory) = Unit {0}
ReadsConfig bs (Err (error.Fault f)) = configuration bs ≡ Err f
