-- What more bytes make of an item and of a header. Assumes nothing.
use Rattle.std.proofs.Common.{◌≡◌, ℕ, ◌+◌, ◌<◌, ◌≤◌, ◌⊎◌, ◌++◌, length, take, drop, Ok, Err, sym, ap, ◌∙◌, inl, inr, arith}
use Rattle.std.proofs.lemmas.List.{length-append, length-drop, get_or_append_left, take-append-le, drop-append-le}
use Rattle.std.proofs.lemmas.Bool.{cases_eq, cases_lt}
use Rattle.std.proofs.lemmas.Bool.Decides.{nat_tests}
use Rattle.packet.specs.Bytes.{Bytes, byte, read16, read32}
use Rattle.filter.specs.Verdict.{Comes, Ticks}
use Rattle.frames.specs.Items.{ReadEvent, item, packet_item, side_of, ticks_item}
use Rattle.frames.specs.declared.refusal.Refusal.TheVariants.{Cut, Bad}

abbrev pub packet_of : Bytes → ReadEvent
packet_of bs = record { event = Comes (side_of (byte 1 bs)) (take (read16 2 bs) (drop 4 bs)); taken = 4 + read16 2 bs }

abbrev pub ticks_of : Bytes → ReadEvent
ticks_of bs = record { event = Ticks (read32 1 bs); taken = 5 }

module _ (bs : Bytes) where
  pub item-none : length bs ≡ 0 → item bs ≡ Err Cut
  unfolding item
  item-none l = grind (arith, nat_tests)

  item_other : 0 < length bs → (byte 0 bs ≡ 1 → ⊥) → (byte 0 bs ≡ 2 → ⊥) → item bs ≡ Err Bad
  unfolding item
  item_other l a b = grind (arith, nat_tests)

  item_is_packet : 0 < length bs → byte 0 bs ≡ 1 → item bs ≡ packet_item bs
  unfolding item
  item_is_packet l e = grind (arith, nat_tests)

  item_is_ticks : 0 < length bs → byte 0 bs ≡ 2 → item bs ≡ ticks_item bs
  unfolding item
  item_is_ticks l e = grind (arith, nat_tests)

  packet_short : length bs ≤ 1 → packet_item bs ≡ Err Cut
  unfolding packet_item
  packet_short l = grind (arith, nat_tests)

  packet_bad : 1 < length bs → 1 < byte 1 bs → packet_item bs ≡ Err Bad
  unfolding packet_item
  packet_bad l s = grind (arith, nat_tests)

  packet-cut : byte 1 bs ≤ 1 → length bs < 4 + read16 2 bs → packet_item bs ≡ Err Cut
  unfolding packet_item
  packet-cut s l = grind (arith, nat_tests)

  packet_whole : byte 1 bs ≤ 1 → 4 + read16 2 bs ≤ length bs → packet_item bs ≡ Ok (packet_of bs)
  unfolding packet_item
  packet_whole s l = grind (arith, nat_tests)

  ticks_cut : length bs < 5 → ticks_item bs ≡ Err Cut
  unfolding ticks_item
  ticks_cut l = grind (arith, nat_tests)

  ticks_whole : 5 ≤ length bs → ticks_item bs ≡ Ok (ticks_of bs)
  unfolding ticks_item
  ticks_whole l = grind (arith, nat_tests)

  pub item-packet : byte 0 bs ≡ 1 → byte 1 bs ≤ 1 → 4 + read16 2 bs ≤ length bs → item bs ≡ Ok (packet_of bs)
  item-packet e s l = item_is_packet (omega arith) e ∙ packet_whole s l

  pub item_ticks : byte 0 bs ≡ 2 → 5 ≤ length bs → item bs ≡ Ok (ticks_of bs)
  item_ticks e l = item_is_ticks (omega arith) e ∙ ticks_whole l

-- what becomes of an item: it may still be mended, or it stays a fault, or it stays what it is
pub data Fate (bs : Bytes) : Type 0 where
  open_still : item bs ≡ Err Cut → (((i : ℕ) → byte i bs < 256) → length bs ≤ 65538) → Fate bs
  lost : item bs ≡ Err Bad → ((more : Bytes) → item (bs ++ more) ≡ Err Bad) → Fate bs
  done : (r : ReadEvent) → item bs ≡ Ok r → ((more : Bytes) → item (bs ++ more) ≡ Ok r) → 0 < r.taken → r.taken ≤ length bs → Fate bs

module _ (bs more : Bytes) where
  pub byte_on : (i : ℕ) → i < length bs → byte i (bs ++ more) ≡ byte i bs
  byte_on i l = get_or_append_left bs more 0 i l

  read16_on : (i : ℕ) → i + 1 < length bs → read16 i (bs ++ more) ≡ read16 i bs
  read16_on i l = let a = byte_on i (omega arith) in let b = byte_on (i + 1) l in omega arith

  pub read32_on : (i : ℕ) → i + 3 < length bs → read32 i (bs ++ more) ≡ read32 i bs
  read32_on i l =
      let a = read16_on i (omega arith) in
      let e : i + 2 + 1 ≡ i + 3 = omega arith in
      let b = read16_on (i + 2) (omega arith) in
      omega arith

  packet_on : 4 + read16 2 bs ≤ length bs → packet_of (bs ++ more) ≡ packet_of bs
  packet_on l =
      let s : byte 1 (bs ++ more) ≡ byte 1 bs = byte_on 1 (omega arith) in
      let n : read16 2 (bs ++ more) ≡ read16 2 bs = read16_on 2 (omega arith) in
      let d : drop 4 (bs ++ more) ≡ drop 4 bs ++ more = drop-append-le 4 bs more (omega arith) in
      let k = length-drop 4 bs in
      let t : take (read16 2 bs) (drop 4 (bs ++ more)) ≡ take (read16 2 bs) (drop 4 bs) = ap (take (read16 2 bs)) d ∙ take-append-le (read16 2 bs) (drop 4 bs) more (omega arith) in
      ap (λ (b : ℕ). record { event = Comes (side_of b) (take (read16 2 (bs ++ more)) (drop 4 (bs ++ more))); taken = 4 + read16 2 (bs ++ more) }) s
      ∙ ap (λ (m : ℕ). record { event = Comes (side_of (byte 1 bs)) (take m (drop 4 (bs ++ more))); taken = 4 + m }) n
      ∙ ap (λ (p : Bytes). record { event = Comes (side_of (byte 1 bs)) p; taken = 4 + read16 2 bs }) t

packet_fate : (bs : Bytes) → 0 < length bs → byte 0 bs ≡ 1 → Fate bs
packet_fate bs l e =
    elim (cases_lt 1 (length bs)) [
      | inr short ↦ open_still (item_is_packet bs l e ∙ packet_short bs short) (λ b. omega arith)
      | inl two ↦
          elim (cases_lt 1 (byte 1 bs)) [
            | inl s ↦
                lost (item_is_packet bs l e ∙ packet_bad bs two s)
                (λ more. let n = length-append bs more in let a = byte_on bs more 0 l in let b = byte_on bs more 1 two in
                item_is_packet (bs ++ more) (omega arith) (a ∙ e) ∙ packet_bad (bs ++ more) (omega arith) (omega arith))
            | inr s ↦
                elim (cases_lt (length bs) (4 + read16 2 bs)) [
                  | inl cut ↦ open_still (item_is_packet bs l e ∙ packet-cut bs s cut) (λ b. omega (arith, b 2, b 3))
                  | inr whole ↦
                      done (packet_of bs) (item-packet bs e s whole)
                      (λ more. let n = length-append bs more in let a = byte_on bs more 0 l in let b = byte_on bs more 1 two in let c = read16_on bs more 2 (omega arith) in
                      item-packet (bs ++ more) (a ∙ e) (omega arith) (omega arith) ∙ ap Ok (packet_on bs more whole))
                      (omega arith) whole
                ]
          ]
    ]

ticks_fate : (bs : Bytes) → 0 < length bs → byte 0 bs ≡ 2 → Fate bs
ticks_fate bs l e =
    elim (cases_lt (length bs) 5) [
      | inl cut ↦ open_still (item_is_ticks bs l e ∙ ticks_cut bs cut) (λ b. omega arith)
      | inr whole ↦
          done (ticks_of bs) (item_ticks bs e whole)
          (λ more. let n = length-append bs more in
          item_ticks (bs ++ more) (byte_on bs more 0 l ∙ e) (omega arith) ∙ ap (λ (k : ℕ). Ok (record { event = Ticks k; taken = 5 })) (read32_on bs more 1 (omega arith)))
          (omega arith) whole
    ]

pub fate : (bs : Bytes) → Fate bs
fate bs =
    elim (cases_lt 0 (length bs)) [
      | inr none ↦ open_still (item-none bs (omega arith)) (λ b. omega arith)
      | inl l ↦ by_kind l (cases_eq (byte 0 bs) 1) (cases_eq (byte 0 bs) 2)
    ]
  where
    by_kind : 0 < length bs → (byte 0 bs ≡ 1) ⊎ (byte 0 bs ≡ 1 → ⊥) → (byte 0 bs ≡ 2) ⊎ (byte 0 bs ≡ 2 → ⊥) → Fate bs
    by_kind l (inl one) k = packet_fate bs l one
    by_kind l (inr a) (inl two) = ticks_fate bs l two
    by_kind l (inr a) (inr b) =
        lost (item_other bs l a b)
        (λ more. let n = length-append bs more in let e = byte_on bs more 0 l in
        item_other (bs ++ more) (omega arith) (λ h. a (sym e ∙ h)) (λ h. b (sym e ∙ h)))
