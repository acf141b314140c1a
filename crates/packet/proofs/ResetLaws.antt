-- What is read of a reset, and that it is right. Assumes nothing.
use Rattle.std.proofs.Common.{◌≡◌, ℕ, ◌+◌, ◌*◌, ◌/◌, ◌%◌, ◌<◌, ◌≤◌, [], ◌++◌, length, Ok, sym, refl, ap, ◌∙◌, subst, inl, inr, arith}
use Rattle.std.proofs.lemmas.List.{drop_at, get_or_append_left}
use Rattle.packet.specs.Bytes.{Bytes, byte, read16, read32, write16, write32}
use Rattle.packet.specs.Laws.{Fresh, IsReset, ResetRight}
use Rattle.packet.specs.Packet.{packet, head_length, read, seal, reset, reset_head}
use Rattle.packet.proofs.BytesLaws.{length-write16, length-write32, write16_other, write32_other, read16_alike, read32_alike, read16-write16, read32-write32}
use Rattle.packet.proofs.SealLaws.{final, final_size, final_byte, seal_is, seal-fresh}
use Rattle.packet.proofs.WriteLaws.{Ready, seal_reads}

module _ (source port destination port' number : ℕ) where
  -- the headers as they are written one after the other
  numbered : Bytes
  numbered = write32 24 number reset_head

  inner : Bytes
  inner = write16 20 port (write16 22 port' numbered)

  head : Bytes
  head = write32 12 source (write32 16 destination inner)

  numbered_size : length numbered ≡ 40
  unfolding numbered
  numbered_size = length-write32 24 number reset_head

  inner_size : length inner ≡ 40
  unfolding inner
  inner_size = length-write16 20 port _ ∙ (length-write16 22 port' numbered ∙ numbered_size)

  size : length head ≡ 40
  unfolding head
  size = length-write32 12 source _ ∙ (length-write32 16 destination inner ∙ inner_size)

  -- the ports stand above the addresses, the number above the ports, and the rest is as it was
  ports : (j : ℕ) → 20 ≤ j → byte j head ≡ byte j inner
  unfolding head
  ports j l = write32_other 12 source (write32 16 destination inner) j (inr (omega arith)) ∙ write32_other 16 destination inner j (inr (omega arith))

  upper : (j : ℕ) → 24 ≤ j → byte j head ≡ byte j numbered
  unfolding inner
  upper j l = ports j (omega arith) ∙ (write16_other 20 port _ j (omega arith) (omega arith) ∙ write16_other 22 port' numbered j (omega arith) (omega arith))

  last : (j : ℕ) → 28 ≤ j → byte j head ≡ byte j reset_head
  unfolding numbered
  last j l = upper j (omega arith) ∙ write32_other 24 number reset_head j (inr (omega arith))

  low : (j : ℕ) → j < 12 → byte j head ≡ byte j reset_head
  unfolding head inner numbered
  low j l =
      write32_other 12 source _ j (inl l) ∙ (write32_other 16 destination _ j (inl (omega arith)) ∙ (write16_other 20 port _ j (omega arith) (omega arith) ∙
      (write16_other 22 port' _ j (omega arith) (omega arith) ∙ write32_other 24 number reset_head j (inl (omega arith)))))

  head_source : read32 12 head ≡ source % 4294967296
  unfolding head
  head_source = read32-write32 12 source (write32 16 destination inner) (omega (arith, length-write32 16 destination inner, inner_size))

  head_destination : read32 16 head ≡ destination % 4294967296
  unfolding head
  head_destination =
      read32_alike 16 (write32 12 source (write32 16 destination inner)) (write32 16 destination inner) (λ j l u. write32_other 12 source (write32 16 destination inner) j (inr (omega arith))) ∙
      read32-write32 16 destination inner (omega (arith, inner_size))

  head_port : read16 20 head ≡ port % 65536
  unfolding inner
  head_port = read16_alike 20 head inner (ports 20 (omega arith)) (ports 21 (omega arith)) ∙ read16-write16 20 port _ (omega (arith, length-write16 22 port' numbered, numbered_size))

  head_port' : read16 22 head ≡ port' % 65536
  unfolding inner
  head_port' =
      read16_alike 22 head (write16 22 port' numbered)
      (ports 22 (omega arith) ∙ write16_other 20 port _ 22 (omega arith) (omega arith))
      (ports 23 (omega arith) ∙ write16_other 20 port _ 23 (omega arith) (omega arith)) ∙
      read16-write16 22 port' numbered (omega (arith, numbered_size))

  head_number : read32 24 head ≡ number % 4294967296
  unfolding numbered
  head_number = read32_alike 24 head numbered (λ j l u. upper j l) ∙ read32-write32 24 number reset_head (omega arith)

  long : 40 ≤ length head
  long = omega (arith, size)

  sized : length head ≡ head_length head
  sized = size ∙ sym (ap (λ w. 20 + w / 16 * 4) (last 32 (omega arith)))

  ready : Ready head []
  ready =
      record {
        version = low 0 (omega arith);
        total = read16_alike 2 head reset_head (low 2 (omega arith)) (low 3 (omega arith)) ∙ omega (arith, size);
        entire = ap (λ x. x % 16384) (read16_alike 6 head reset_head (low 6 (omega arith)) (low 7 (omega arith)));
        protocol = low 9 (omega arith);
        words = subst (λ (w : ℕ). 5 ≤ w / 16) (sym (last 32 (omega arith))) (omega arith);
        size = sized;
        short = omega arith;
      }

  reset_sealed : reset source port destination port' number ≡ seal head []
  unfolding reset head inner numbered
  reset_sealed = refl

  pub reset_reads : read (reset source port destination port' number) ≡ Ok (packet (reset source port destination port' number))
  reset_reads = subst (λ (x : Bytes). read x ≡ Ok (packet x)) (sym reset_sealed) (seal_reads head [] ready)

  pub reset-fresh : Fresh (reset source port destination port' number)
  reset-fresh = subst Fresh (sym reset_sealed) (seal-fresh head [] long sized)

  -- a reset has the number and the ends that it is given, the mark RST alone, and no bytes
  pub reset_is : IsReset source port destination port' number (reset source port destination port' number)
  reset_is = subst (IsReset source port destination port' number) (sym (reset_sealed ∙ seal_is head [] long)) fields
    where
      out : Bytes
      out = final head [] long ++ []

      kept : (j : ℕ) → 12 ≤ j → j < 36 → byte j out ≡ byte j head
      kept j l u = get_or_append_left (final head [] long) [] 0 j (omega (arith, final_size head [] long, size)) ∙ final_byte head [] long j (omega arith) (omega arith) u

      fields : IsReset source port destination port' number (final head [] long ++ [])
      fields =
          record {
            marks = kept 33 (omega arith) (omega arith) ∙ last 33 (omega arith);
            payload = drop_at (final head [] long) [] _ (final_size head [] long ∙ (size ∙ sym (ap (λ w. 20 + w / 16 * 4) (kept 32 (omega arith) (omega arith) ∙ last 32 (omega arith)))));
            numbered = read32_alike 24 out head (λ j l u. kept j (omega arith) (omega arith)) ∙ head_number;
            from = read32_alike 12 out head (λ j l u. kept j l (omega arith)) ∙ head_source;
            from_port = read16_alike 20 out head (kept 20 (omega arith) (omega arith)) (kept 21 (omega arith) (omega arith)) ∙ head_port;
            to = read32_alike 16 out head (λ j l u. kept j (omega arith) (omega arith)) ∙ head_destination;
            to_port = read16_alike 22 out head (kept 22 (omega arith) (omega arith)) (kept 23 (omega arith) (omega arith)) ∙ head_port';
          }

pub reset-right : ResetRight
reset-right = record { reads = reset_reads; fresh = reset-fresh; fields = reset_is }
