-- Parts of a buffer. Assumes nothing.
use Rattle.std.proofs.Common.{◌≡◌, ℕ, ◌+◌, ◌-◌, ◌≤◌, ◌++◌, length, take, drop, sym, ap, ◌∙◌, arith, take-add}
use Rattle.std.proofs.lemmas.List.{length-take-le, length-drop, take-take, drop-drop, drop-take, drop-append-le}
use Rattle.std.proofs.lemmas.Slice.{between_is}
use Rattle.packet.specs.Bytes.{Bytes}

module _ (xs : Bytes) (a e : ℕ) (forward : a ≤ e) (within : e ≤ length xs) where
  abbrev part : Bytes
  part = take (e - a) (drop a xs)

  pub length_part : length part ≡ e - a
  length_part = let d = length-drop a xs in length-take-le (e - a) (drop a xs) (omega arith)

  -- what is left of a part when its front was read
  pub part_rest : (n : ℕ) → n ≤ e - a → take (e - (a + n)) (drop (a + n) xs) ≡ drop n part
  part_rest n l =
      let m : e - a ≡ n + (e - (a + n)) = omega arith in
      ap (take (e - (a + n))) (sym (drop-drop n a xs)) ∙ sym (drop-take n (e - (a + n)) (drop a xs)) ∙ ap (λ k. drop n (take k (drop a xs))) (sym m)

  -- a part of a part
  pub part_part : (p q : ℕ) → p ≤ q → q ≤ e - a → take ((a + q) - (a + p)) (drop (a + p) xs) ≡ take (q - p) (drop p part)
  part_part p q h l =
      let k : (a + q) - (a + p) ≡ q - p = omega arith in
      let f : q - p ≤ e - (a + p) = omega arith in
      ap (λ n. take n (drop (a + p) xs)) k ∙ sym (take-take (q - p) (e - (a + p)) (drop (a + p) xs) f) ∙ ap (take (q - p)) (part_rest p (omega arith))

  -- a part behind which k bytes more came
  pub grown_part : (ys : Bytes) (k : ℕ) → take e ys ≡ take e xs → e + k ≤ length ys → take (e + k - a) (drop a ys) ≡ part ++ take k (drop e ys)
  grown_part ys k s l =
      let t : length (take e xs) ≡ e = length-take-le e xs within in
      between_is ys a (e + k)
      ∙ ap (drop a) (take-add e k ys ∙ ap (λ zs. zs ++ take k (drop e ys)) s)
      ∙ drop-append-le a (take e xs) (take k (drop e ys)) (omega arith)
      ∙ ap (λ zs. zs ++ take k (drop e ys)) (sym (between_is xs a e))
