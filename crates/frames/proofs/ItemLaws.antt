-- Reading items: what the parts of the reader say of the whole. Assumes nothing.
use Rattle.std.proofs.Common.{◌≡◌, ◌≢◌, ℕ, ◌+◌, ◌-◌, ◌*◌, ◌<◌, ◌≤◌, length, take, drop, Ok, Err, Result, sym, refl, ap, ◌∙◌, inl, inr, arith}
use Rattle.std.proofs.lemmas.List.{get_or_past}
use Rattle.std.proofs.lemmas.Bool.{cases_lt}
use Rattle.std.proofs.lemmas.Bool.Decides.{nat_tests}
use Rattle.packet.specs.Bytes.{Bytes, byte, read16}
use Rattle.filter.specs.Sides.{SideOf}
use Rattle.filter.specs.declared.side.Side.{Side}
use Rattle.filter.specs.declared.side.Side.TheVariants.{Looms, Outside}
use Rattle.filter.specs.Verdict.{Comes}
use Rattle.frames.specs.Items.{ReadEvent, ReadsItem, header, item, packet_item, side_of, ticks_item}
use Rattle.frames.specs.Kinds.{KindOf}
use Rattle.frames.specs.declared.read.Kind.{Kind}
use Rattle.frames.specs.declared.read.Kind.TheVariants.{Config, Packet, Ticks}
use Rattle.frames.specs.declared.refusal.Refusal.{Refusal}
use Rattle.frames.specs.declared.refusal.Refusal.TheVariants.{Bad}
use Rattle.frames.specs.declared.item.Item.{Item}

pub side_is : (n : ℕ) (s : Side) → SideOf n (Ok s) → (n ≤ 1) × (s ≡ side_of n)
side_is n Outside h = (omega arith, ap side_of (sym h))
side_is n Looms h = (omega arith, ap side_of (sym h))

pub packet-read : (bs : Bytes) (side : Side) (n : ℕ) → byte 1 bs ≤ 1 → side ≡ side_of (byte 1 bs) → n ≡ read16 2 bs → 4 + n ≤ length bs →
    packet_item bs ≡ Ok (record { event = Comes side (take (4 + n - 4) (drop 4 bs)); taken = 4 + n })
unfolding packet_item
packet-read bs side n l s e w =
    let m : 4 + n - 4 ≡ n = omega arith in
    let p : packet_item bs ≡ Ok (record { event = Comes (side_of (byte 1 bs)) (take (read16 2 bs) (drop 4 bs)); taken = 4 + read16 2 bs }) = grind (arith, nat_tests) in
    let q : Comes side (take (4 + n - 4) (drop 4 bs)) ≡ Comes (side_of (byte 1 bs)) (take (read16 2 bs) (drop 4 bs)) =
    ap (λ k. Comes side (take k (drop 4 bs))) (m ∙ e) ∙ ap (λ s. Comes s (take (read16 2 bs) (drop 4 bs))) s in
    cc

-- four bytes as one number, and as two of two bytes
pub spelled : (a b c d : ℕ) → a * 16777216 + b * 65536 + c * 256 + d ≡ (a * 256 + b) * 65536 + (c * 256 + d)
spelled a b c d = omega arith

reads_as : (f g : Bytes → Result ReadEvent Refusal) (bs : Bytes) (r : Result (Item × ℕ) Refusal) → g bs ≡ f bs → ReadsItem f bs r → ReadsItem g bs r
reads_as f g bs (Ok r) e h = (e ∙ h.0, h.1, h.2, h.3)
reads_as f g bs (Err why) e h = e ∙ h

-- a byte that is not 0 stands there
there : (bs : Bytes) (i n : ℕ) → byte i bs ≡ n → 0 < n → i < length bs
there bs i n e p = elim (cases_lt i (length bs)) [ inl l ↦ l | inr l ↦ let z = get_or_past bs i 0 l in omega arith ]

pub reads_packet : (bs : Bytes) (r : Result (Item × ℕ) Refusal) → byte 0 bs ≡ 1 → ReadsItem packet_item bs r → ReadsItem item bs r
unfolding item
reads_packet bs r e h = let l : 0 < length bs = there bs 0 1 e (omega arith) in reads_as packet_item item bs r (grind (arith, nat_tests)) h

pub reads_ticks : (bs : Bytes) (r : Result (Item × ℕ) Refusal) → byte 0 bs ≡ 2 → ReadsItem ticks_item bs r → ReadsItem item bs r
unfolding item
reads_ticks bs r e h = let l : 0 < length bs = there bs 0 2 e (omega arith) in reads_as ticks_item item bs r (grind (arith, nat_tests)) h

pub reads_unknown : (bs : Bytes) (why : Refusal) → 0 < length bs → KindOf (byte 0 bs) (Err why) → item bs ≡ Err why
unfolding item
reads_unknown bs why l h =
    let one = h.0 in
    let two = h.1 in
    let bad : item bs ≡ Err Bad = grind (arith, nat_tests) in
    bad ∙ ap Err (sym h.3)

-- a header is bad where its kind is unknown, or is another one

pub header_unknown : (bs : Bytes) (why : Refusal) → 0 < length bs → KindOf (byte 0 bs) (Err why) → header bs ≡ Err why
unfolding header
header_unknown bs why l h =
    let three = h.2 in
    let bad : header bs ≡ Err Bad = grind (arith, nat_tests) in
    bad ∙ ap Err (sym h.3)

pub header_other : (bs : Bytes) (k : Kind) → 0 < length bs → KindOf (byte 0 bs) (Ok k) → (k ≢ Config) → header bs ≡ Err Bad
unfolding header
header_other bs Packet l h n = grind (arith, nat_tests)
header_other bs Ticks l h n = grind (arith, nat_tests)
header_other bs Config l h n = absurd (n refl)
