-- The buffer through which the input is read. Assumes nothing.
use Rattle.std.specs.Prelude.{◌≡◌, ℕ, ◌+◌, ◌-◌, ◌%◌, ◌^◌, ◌<◌, ◌≤◌, ◌++◌, length, take, drop, Ok, Err, vec_items, Result}
use Rattle.packet.specs.Bytes.{Bytes}
use Rattle.frames.specs.Items.{Placed, event_of, item}
use Rattle.frames.specs.Configs.{configuration, settings_of}
use Rattle.frames.specs.declared.config.Config.{Config}
use Rattle.fault.specs.declared.ReadError.{ReadError}
use Rattle.fault.specs.declared.ReadError.TheVariants as error
use Rattle.fault.specs.declared.Fault.{Fault}
use Rattle.frames.specs.declared.refusal.Refusal.{Refusal}
use Rattle.frames.specs.declared.input.Input.{Input}
use Rattle.frames.specs.declared.item.Item.{Item}
use Rattle.frames.specs.declared.item.Item.TheVariants.{Packet, Ticks}

-- what has come and is not read yet
abbrev pub pending : Input → Bytes
pending i = take (i.end - i.start) (drop i.start (vec_items i.buffer))

-- an item, where the bytes that hold it begin at `from`
abbrev pub placed : ℕ → Item → Item
placed from (Packet side start end) = Packet side (from + start) (from + end)
placed from (Ticks n) = Ticks n

abbrev pub Placing : Item → ℕ → Type 0
Placing (Packet side start end) from = (start ≤ end) × (from + end < 2 ^ 64)
Placing (Ticks n) from = Unit {0}

-- the place in the input and what is not read yet are as they were
pub record SameInput (i j : Input) : Type 0 where
  pub left : pending j ≡ pending i
  pub offset : j.offset ≡ i.offset
  pub size : length (vec_items j.buffer) ≡ length (vec_items i.buffer)

-- n bytes came behind those that are not read yet
pub record Grew (i j : Input) (n : ℕ) : Type 0 where
  pub more : Bytes
  pub many : length more ≡ n
  pub left : pending j ≡ pending i ++ more
  pub offset : j.offset ≡ i.offset
  pub size : length (vec_items j.buffer) ≡ length (vec_items i.buffer)

abbrev pub Filled : {E : Type 0} → Input → Input → Result ℕ E → Type 0
Filled i j (Ok n) = Grew i j n
Filled i j (Err e) = SameInput i j

-- n bytes were read
pub record Read (i j : Input) (n : ℕ) : Type 0 where
  pub left : pending j ≡ drop n (pending i)
  pub within : n ≤ length (pending i)
  pub offset : j.offset ≡ (i.offset + n) % 2 ^ 64
  pub buffer : vec_items j.buffer ≡ vec_items i.buffer

-- the configuration was read
abbrev pub TookConfig : Input → Input → Result Config (ReadError Refusal) → Type 0
TookConfig i j (Ok c) = ((n : ℕ) × (configuration (pending i) ≡ Ok (record { settings = settings_of c; taken = n })) × Read i j n)
TookConfig i j (Err error.Memory) = j ≡ i
TookConfig i j (Err (error.Fault f)) = ((at : ℕ) × (configuration (pending i) ≡ Err (record { refusal = f.refusal; at = at })) × (f.at ≡ (i.offset + at) % 2 ^ 64) × (j ≡ i))

abbrev pub Inside : Bytes → Item → Type 0
Inside bs (Packet side start end) = (start ≤ end) × (end ≤ length bs)
Inside bs (Ticks n) = Unit {0}

-- an item of n bytes was read; a packet's bytes stand in the buffer where the item says
pub record Took (i j : Input) (it : Item) (n : ℕ) : Type 0 where
  pub event : item (pending i) ≡ Ok (record { event = event_of (vec_items j.buffer) it; taken = n })
  pub at : Placed i.start n it
  pub inside : Inside (vec_items j.buffer) it
  pub read : Read i j n
  pub fewer : j.end - j.start < i.end - i.start

abbrev pub TookItem : Input → Input → Result Item (Fault Refusal) → Type 0
TookItem i j (Ok it) = ((n : ℕ) × Took i j it n)
TookItem i j (Err f) = (item (pending i) ≡ Err f.refusal) × (f.at ≡ i.offset) × (j ≡ i)
