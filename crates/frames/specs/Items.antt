-- The items of the gate's input as bytes. Assumes nothing.
use Rattle.std.specs.Prelude.{◌≡◌, ℕ, zero, suc, ◌+◌, ◌-◌, ◌<◌, ◌≤◌, cond, not, ◌&&◌, length, take, drop, Ok, Err, Result, ◌==◌, nat_le, nat_lt}
use Rattle.packet.specs.Bytes.{Bytes, byte, read16, read32}
use Rattle.filter.specs.declared.side.Side.TheVariants.{Outside, Looms}
use Rattle.filter.specs.Verdict.{Event, Comes}
use Rattle.filter.specs.Verdict as event
use Rattle.filter.specs.declared.side.Side.{Side}
use Rattle.frames.specs.declared.refusal.Refusal.{Refusal}
use Rattle.frames.specs.declared.refusal.Refusal.TheVariants.{Cut, Bad, TooMuch, Twice}
use Rattle.frames.specs.declared.item.Item.{Item}
use Rattle.frames.specs.declared.item.Item.TheVariants.{Packet, Ticks}

-- the numbers of the refusals
abbrev pub refusal_number : Refusal → ℕ
refusal_number Cut = 1
refusal_number Bad = 1
refusal_number TooMuch = 11
refusal_number Twice = 12

-- an event that was read, and how many bytes it took
pub record ReadEvent : Type 0 where
  pub event : Event
  pub taken : ℕ

abbrev pub side_of : ℕ → Side
side_of zero = Outside
side_of (suc n) = Looms

-- 1, side, length (2 bytes), packet
unfoldable pub packet_item : Bytes → Result ReadEvent Refusal
packet_item bs =
    cond (nat_le (length bs) 1) (Err Cut)
    (cond (nat_lt 1 (byte 1 bs)) (Err Bad)
    (cond (nat_lt (length bs) (4 + read16 2 bs)) (Err Cut)
    (Ok (record { event = Comes (side_of (byte 1 bs)) (take (read16 2 bs) (drop 4 bs)); taken = 4 + read16 2 bs }))))

-- 2, how many (4 bytes)
unfoldable pub ticks_item : Bytes → Result ReadEvent Refusal
ticks_item bs = cond (nat_lt (length bs) 5) (Err Cut) (Ok (record { event = event.Ticks (read32 1 bs); taken = 5 }))

-- what stands at the front of some bytes behind the configuration
unfoldable pub item : Bytes → Result ReadEvent Refusal
item bs =
    cond (length bs == 0) (Err Cut)
    (cond (byte 0 bs == 1) (packet_item bs)
    (cond (byte 0 bs == 2) (ticks_item bs) (Err Bad)))

-- the event that an item stands for, in the bytes that hold it
abbrev pub event_of : Bytes → Item → Event
event_of bs (Packet side start end) = Comes side (take (end - start) (drop start bs))
event_of bs (Ticks n) = event.Ticks n

-- where the bytes of an item of n bytes stand that begins at `from`
abbrev pub Placed : ℕ → ℕ → Item → Type 0
Placed from n (Packet side start end) = (start ≡ from + 4) × (end ≡ from + n) × (start ≤ end)
Placed from n (Ticks t) = Unit {0}

-- an answer is what the definition gives
abbrev pub ReadsItem : (Bytes → Result ReadEvent Refusal) → Bytes → Result (Item × ℕ) Refusal → Type 0
ReadsItem reads bs (Ok r) = (reads bs ≡ Ok (record { event = event_of bs r.0; taken = r.1 })) × Placed 0 r.1 r.0 × (0 < r.1) × (r.1 ≤ length bs)
ReadsItem reads bs (Err e) = reads bs ≡ Err e

-- the front of a configuration: 3, the window's width as its power of two, ticks of quiet (4 bytes)
unfoldable pub header : Bytes → Result (ℕ × ℕ) Refusal
header bs =
    cond (length bs == 0) (Err Cut)
    (cond (not (byte 0 bs == 3)) (Err Bad)
    (cond (nat_le (length bs) 1) (Err Cut)
    (cond (not (nat_le 10 (byte 1 bs) && nat_le (byte 1 bs) 16)) (Err Bad)
    (cond (nat_lt (length bs) 6) (Err Cut) (Ok (byte 1 bs, read32 2 bs))))))
