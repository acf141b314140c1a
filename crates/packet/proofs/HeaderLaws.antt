-- What of the headers stays when a packet is rewritten.
-- Assumes nothing.
use Rattle.std.proofs.Common.{◌≡◌, ℕ, ◌+◌, ◌<◌, ◌⊎◌, ◌++◌, length, take, refl, ◌∙◌, inl, inr, ⊎_elim, arith}
use Rattle.std.proofs.lemmas.List.{length-set, length-take-le, get_or-set_other, get_or_append_left, get_or-take}
use Rattle.std.proofs.lemmas.Bool.{cond_both}
use Rattle.packet.specs.Bytes.{Bytes, byte, same, write16}
use Rattle.packet.specs.Packet.{head_length, packet, seal, edit, rewrite}
use Rattle.packet.specs.Header.{Untouched, RewriteKeeps}
use Rattle.packet.proofs.BytesLaws.{length-write16, length-write32, write16_other, write32_other}
use Rattle.packet.proofs.ReadLaws.{Fits, read_fits}

module _ (p : Bytes) (f : Fits p) (j : ℕ) (u : Untouched p j) where
  edit_keeps : (n a m : ℕ) (bs : Bytes) → byte j (edit (packet p) n a m bs) ≡ byte j p
  unfolding edit
  edit_keeps n a m bs =
      let l = u.length in
      let h = u.marks in
      let low : (j < 24) ⊎ (24 + 3 < j) = ⊎_elim inl (λ k. inr (omega arith)) u.numbers in
      let high : (j < 28) ⊎ (28 + 3 < j) = ⊎_elim (λ k. inl (omega arith)) (λ k. inr (omega arith)) u.numbers in
      write16_other 2 _ _ j (omega arith) (omega arith) ∙ (write32_other 24 n _ j low ∙ (write32_other 28 a _ j high ∙
      (get_or-set_other (take (head_length p) p) 33 j m 0 (omega arith) ∙ get_or-take (head_length p) p j 0 u.within)))

  edit_size : (n a m : ℕ) (bs : Bytes) → length (edit (packet p) n a m bs) ≡ head_length p
  unfolding edit
  edit_size n a m bs =
      length-write16 2 _ _ ∙ (length-write32 24 n _ ∙ (length-write32 28 a _ ∙ (length-set (take (head_length p) p) 33 m ∙ length-take-le (head_length p) p f.within)))

  seal_keeps : (head bs : Bytes) → j < length head → byte j (seal head bs) ≡ byte j head
  unfolding seal
  seal_keeps head bs l =
      let h = u.header_sum in
      let s = u.segment_sum in
      get_or_append_left _ bs 0 j (simp length-write16 l) ∙ (write16_other 10 _ _ j (omega arith) (omega arith) ∙ (write16_other 36 _ _ j (omega arith) (omega arith) ∙
      (write16_other 10 0 (write16 36 0 head) j (omega arith) (omega arith) ∙ write16_other 36 0 head j (omega arith) (omega arith))))

pub rewrite_keeps : RewriteKeeps
unfolding rewrite
rewrite_keeps p reads n a m bs j u =
    let f = read_fits p (packet p) reads in
    let head : Bytes = edit (packet p) n a m bs in
    cond_both (same (head ++ bs) p) p (seal head bs) (λ out. byte j out ≡ byte j p) (λ _. refl)
    (λ _. seal_keeps p f j u head bs (omega (arith, edit_size p f j u n a m bs, u.within)) ∙ edit_keeps p f j u n a m bs)
