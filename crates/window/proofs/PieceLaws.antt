-- Bytes at places: a piece, the part of it in a window, what is learned and passed on of it, what is known without a gap.
-- Assumes nothing.
use Rattle.std.proofs.Common.{◌≡◌, ℕ, zero, suc, ◌+◌, ◌-◌, ◌<◌, ◌≤◌, max, true, leb, ◌⊎◌, List, [], ◌∷◌, ◌++◌, length, take, drop, is_some, Some, None, Option, sym, refl, ap, ◌∙◌, ap₂, inl, inr, ⊎_elim, add-zero, zero-add, arith}
use Rattle.std.specs.List.{slice_get}
use Rattle.std.proofs.lemmas.List.{length-take, take_all}
use Rattle.std.proofs.lemmas.Bool.{both_ways, le-leb, leb-true, cond-true, cond_both}
use Rattle.std.specs.Option.{option_or, unwrap_or}
use Rattle.window.specs.Known.{Known, Piece, byte_of, cut, learn, overlay, on_byte, onwards, none_known}
use Rattle.window.proofs.KnownLaws.{none_known_decides, or-some}

pub none-some : {A : Type 0} {x : Option A} {a : A} → x ≡ None → x ≡ Some a → ⊥
none-some {x = x} e h = both_ways (is_some x) (ap is_some e) (ap is_some h)

pub none_since : (x : Option ℕ) → ((b : ℕ) → x ≡ Some b → ⊥) → x ≡ None
none_since None h = refl
none_since (Some b) h = absurd (h b refl)

-- g has each byte of f at the same place
abbrev pub Extends : Known → Known → Type 0
Extends g f = (j b : ℕ) → f j ≡ Some b → g j ≡ Some b

-- A text from a place on

abbrev pub from : ℕ → List ℕ → Known
from i t = byte_of (record { at = i; bytes = t })

-- a byte of a text stands at its place and nowhere else
pub record There (i : ℕ) (t : List ℕ) (j b : ℕ) : Type 0 where
  pub above : i ≤ j
  pub is : slice_get t (j - i) ≡ Some b

pub from_there : (i : ℕ) (t : List ℕ) (j b : ℕ) → from i t j ≡ Some b → There i t j b
from_there i t j b =
    cond_both (leb i j) (slice_get t (j - i)) None (λ x. x ≡ Some b → There i t j b)
    (λ l e. record { above = leb-true i j l; is = e }) (λ _ e. absurd (none-some refl e))

pub there_from : (i : ℕ) (t : List ℕ) (j b : ℕ) → There i t j b → from i t j ≡ Some b
there_from i t j b h = cond-true (leb i j) (slice_get t (j - i)) None (le-leb i j h.above) ∙ h.is

-- from place 0 on, a byte stands at its index
pub from_start : (t : List ℕ) (j b : ℕ) → slice_get t j ≡ Some b → from 0 t j ≡ Some b
from_start t j b e = let d : j - 0 ≡ j = omega arith in there_from 0 t j b (record { above = omega arith; is = rw d e })

pub start_from : (t : List ℕ) (j b : ℕ) → from 0 t j ≡ Some b → slice_get t j ≡ Some b
start_from t j b e = let d : j - 0 ≡ j = omega arith in rw d at (from_there 0 t j b e).is

pub from_nil : (i j b : ℕ) → from i [] j ≡ Some b → ⊥
from_nil i j b e = none-some refl (from_there i [] j b e).is

pub nth_within : (t : List ℕ) (k b : ℕ) → slice_get t k ≡ Some b → k < length t
nth_within [] k b e = absurd (none-some refl e)
nth_within (x ∷ t) zero b e = omega arith
nth_within (x ∷ t) (suc k) b e = let l = nth_within t k b e in omega arith

-- the first byte, and those after it
pub from_cons : (i x : ℕ) (t : List ℕ) (j b : ℕ) → from i (x ∷ t) j ≡ Some b → ((j ≡ i) × (x ≡ b)) ⊎ (from (i + 1) t j ≡ Some b)
from_cons i x t j b e = go (j - i) refl (from_there i (x ∷ t) j b e)
  where
    go : (k : ℕ) → j - i ≡ k → There i (x ∷ t) j b → ((j ≡ i) × (x ≡ b)) ⊎ (from (i + 1) t j ≡ Some b)
    go zero d h = let s : Some x ≡ Some b = rw d at h.is in let q : x ≡ b = cc in inl (omega (arith, h.above), q)
    go (suc k) d h =
        let d' : j - (i + 1) ≡ k = omega arith in
        inr (there_from (i + 1) t j b (record { above = omega (arith, h.above); is = rw d' (rw d at h.is) }))

pub head_from : (i x : ℕ) (t : List ℕ) → from i (x ∷ t) i ≡ Some x
head_from i x t = let d : i - i ≡ 0 = omega arith in there_from i (x ∷ t) i x (record { above = omega arith; is = rw d refl })

pub rest_from : (i x : ℕ) (t : List ℕ) → Extends (from i (x ∷ t)) (from (i + 1) t)
rest_from i x t j b e =
    let h = from_there (i + 1) t j b e in
    let d : j - i ≡ suc (j - (i + 1)) = omega (arith, h.above) in
    there_from i (x ∷ t) j b (record { above = omega (arith, h.above); is = rw d h.is })

-- a byte of two texts, one after the other, is a byte of one of them
append_from : (i : ℕ) (s t : List ℕ) (j b : ℕ) → from i (s ++ t) j ≡ Some b → (from i s j ≡ Some b) ⊎ (from (i + length s) t j ≡ Some b)
append_from i [] t j b e = inr (rw add-zero e)
append_from i (x ∷ s) t j b e =
    ⊎_elim (λ (p, q). inl (rw (p, ← q) (head_from i x s)))
    (λ h. ⊎_elim (λ l. inl (rest_from i x s j b l)) (λ r. inr (rw next r)) (append_from (i + 1) s t j b h))
    (from_cons i x (s ++ t) j b e)
  where
    next : i + suc (length s) ≡ (i + 1) + length s
    next = omega arith

pub append_start : (s t : List ℕ) (j b : ℕ) → slice_get (s ++ t) j ≡ Some b → (slice_get s j ≡ Some b) ⊎ (from (length s) t j ≡ Some b)
append_start s t j b e = ⊎_elim (λ h. inl (start_from s j b h)) (λ h. inr (rw zero-add at h)) (append_from 0 s t j b (from_start (s ++ t) j b e))

-- two texts that stand from one place on in one map agree as far as both go
pub from_same : (f : Known) (i : ℕ) (s t : List ℕ) → Extends f (from i s) → Extends f (from i t) → length s ≤ length t → t ≡ s ++ drop (length s) t
from_same f i [] t a b l = refl
from_same f i (x ∷ s) [] a b l = absurd (omega arith)
from_same f i (x ∷ s) (y ∷ t) a b l =
    let p = a i x (head_from i x s) in
    let q = b i y (head_from i y t) in
    let rest : t ≡ s ++ drop (length s) t =
    from_same f (i + 1) s t (λ j c e. a j c (rest_from i x s j c e)) (λ j c e. b j c (rest_from i y t j c e)) (omega arith) in
    cc

-- What is learned

-- what is known stays known
pub learn_keeps : (p : Piece) (f : Known) → Extends (learn p f) f
learn_keeps p f j b e = ap (λ x. option_or x (byte_of p j)) e

-- what is known then was known before, or the piece says it
pub or_either : (x y : Option ℕ) (b : ℕ) → option_or x y ≡ Some b → (x ≡ Some b) ⊎ (y ≡ Some b)
or_either None y b e = inr e
or_either (Some c) y b e = inl e

pub learn_from : (p : Piece) (f : Known) (j b : ℕ) → learn p f j ≡ Some b → (f j ≡ Some b) ⊎ (byte_of p j ≡ Some b)
learn_from p f j b e = or_either (f j) (byte_of p j) b e

pub learn-none : (p : Piece) (f : Known) (j : ℕ) → f j ≡ None → byte_of p j ≡ None → learn p f j ≡ None
learn-none p f j a b = ap₂ option_or a b

-- What is passed on

-- each byte goes out at its place, unless another is known there
pub overlay_at : (f : Known) (i : ℕ) (bs : List ℕ) (j b : ℕ) → from i bs j ≡ Some b → from i (overlay f i bs) j ≡ Some (unwrap_or (f j) b)
unfolding overlay
overlay_at f i [] j b e = absurd (from_nil i j b e)
overlay_at f i (x ∷ bs) j b e =
    ⊎_elim (λ (p, q). rw (p, ← q) (head_from i (unwrap_or (f i) x) (overlay f (i + 1) bs)))
    (λ h. rest_from i (unwrap_or (f i) x) (overlay f (i + 1) bs) j (unwrap_or (f j) b) (overlay_at f (i + 1) bs j b h))
    (from_cons i x bs j b e)

-- and nothing else goes out
pub overlay_from : (f : Known) (i : ℕ) (bs : List ℕ) (j d : ℕ) → from i (overlay f i bs) j ≡ Some d → (b : ℕ) × (from i bs j ≡ Some b) × (d ≡ unwrap_or (f j) b)
unfolding overlay
overlay_from f i [] j d e = absurd (from_nil i j d e)
overlay_from f i (x ∷ bs) j d e =
    ⊎_elim (λ (p, q). (x, rw p (head_from i x bs), sym (rw p q)))
    (λ h. let r = overlay_from f (i + 1) bs j d h in (r.0, rest_from i x bs j r.0 r.1, r.2))
    (from_cons i (unwrap_or (f i) x) (overlay f (i + 1) bs) j d e)

-- what goes out is what is known then
pub overlay_known : (f : Known) (i : ℕ) (bs : List ℕ) → Extends (learn (record { at = i; bytes = bs }) f) (from i (overlay f i bs))
overlay_known f i bs j d e =
    let r = overlay_from f i bs j d e in
    ap (option_or (f j)) r.1 ∙ (or-some (f j) r.0 ∙ ap Some (sym r.2))

-- The bytes known without a gap from a place on

on_known : (f : Known) (i : ℕ) (t : List ℕ) (x : Option ℕ) → f i ≡ x → Extends f (from (i + 1) t) → Extends f (from i (on_byte t x))
on_known f i t None e h j c r = absurd (from_nil i j c r)
on_known f i t (Some b) e h j c r = ⊎_elim (λ (s, q). rw s (e ∙ ap Some q)) (h j c) (from_cons i b t j c r)

pub onwards_known : (n i : ℕ) (f : Known) → Extends f (from i (onwards n i f))
unfolding onwards
onwards_known zero i f = λ j c r. absurd (from_nil i j c r)
onwards_known (suc n) i f = on_known f i (onwards n (i + 1) f) (f i) refl (onwards_known n (i + 1) f)

-- no byte is known after them, or there are n of them
abbrev Ends : Known → ℕ → ℕ → List ℕ → Type 0
Ends f n i t = (f (i + length t) ≡ None) ⊎ (length t ≡ n)

on_ends : (f : Known) (n i : ℕ) (t : List ℕ) (x : Option ℕ) → f i ≡ x → Ends f n (i + 1) t → Ends f (suc n) i (on_byte t x)
on_ends f n i t None e h = inl (rw add-zero e)
on_ends f n i t (Some b) e (inl h) = let p : i + suc (length t) ≡ (i + 1) + length t = omega arith in inl (rw p h)
on_ends f n i t (Some b) e (inr h) = inr (ap suc h)

pub onwards_ends : (n i : ℕ) (f : Known) → (f (i + length (onwards n i f)) ≡ None) ⊎ (length (onwards n i f) ≡ n)
unfolding onwards
onwards_ends zero i f = inr refl
onwards_ends (suc n) i f = on_ends f n i (onwards n (i + 1) f) (f i) refl (onwards_ends n (i + 1) f)

-- no byte is known at the places that were tested
pub none_known_lem : (n i : ℕ) (f : Known) → none_known n i f ≡ true → (j : ℕ) → i ≤ j → j < i + n → f j ≡ None
none_known_lem n i f e j l u = let q : i + (j - i) ≡ j = omega arith in rw q at ((none_known_decides n i f).0 e (j - i) (omega arith))

pub known_none : (n i : ℕ) (f : Known) → ((j : ℕ) → i ≤ j → f j ≡ None) → none_known n i f ≡ true
known_none n i f h = (none_known_decides n i f).1 (λ k l. h (i + k) (omega arith))

-- The part of a piece in a window

nth_drop : (n : ℕ) (t : List ℕ) (k : ℕ) → slice_get (drop n t) k ≡ slice_get t (n + k)
nth_drop zero t k = let e : 0 + k ≡ k = omega arith in rw e
nth_drop (suc n) [] k = refl
nth_drop (suc n) (x ∷ t) k = let e : suc n + k ≡ suc (n + k) = omega arith in rw e (nth_drop n t k)

nth_take : (n : ℕ) (t : List ℕ) (k : ℕ) → k < n → slice_get (take n t) k ≡ slice_get t k
nth_take zero t k l = absurd (omega arith)
nth_take (suc n) [] k l = refl
nth_take (suc n) (x ∷ t) zero l = refl
nth_take (suc n) (x ∷ t) (suc k) l = nth_take n t k (omega arith)

module _ (low top : ℕ) (p : Piece) where
  -- a byte that is left lies in the window, and stands there in the piece
  pub record Inside (j b : ℕ) : Type 0 where
    pub above : low ≤ j
    pub below : j < top
    pub there : byte_of p j ≡ Some b

  abbrev start : ℕ
  start = max low p.at

  abbrev rest : List ℕ
  rest = drop (low - p.at) p.bytes

  -- the byte at a place of the part is that of the piece
  part_at : (j : ℕ) → start ≤ j → j < top → slice_get (take (top - start) rest) (j - start) ≡ slice_get p.bytes (j - p.at)
  part_at j l u =
      let q : (low - p.at) + (j - start) ≡ j - p.at = omega arith in
      nth_take (top - start) rest (j - start) (omega arith) ∙ (nth_drop (low - p.at) p.bytes (j - start) ∙ ap (slice_get p.bytes) q)

  pub cut_inside : (j b : ℕ) → byte_of (cut low top p) j ≡ Some b → Inside j b
  cut_inside j b e =
      let h = from_there start (take (top - start) rest) j b e in
      let short = nth_within (take (top - start) rest) (j - start) b h.is in
      let l : start ≤ j = h.above in
      let u : j < top = omega (arith, length-take (top - start) rest) in
      record {
        above = omega arith;
        below = u;
        there = there_from p.at p.bytes j b (record { above = omega arith; is = sym (part_at j l u) ∙ h.is });
      }

  pub inside-cut : (j b : ℕ) → Inside j b → byte_of (cut low top p) j ≡ Some b
  inside-cut j b i =
      let h = from_there p.at p.bytes j b i.there in
      let l : start ≤ j = omega (arith, h.above, i.above) in
      there_from start (take (top - start) rest) j b (record { above = l; is = part_at j l i.below ∙ h.is })

  -- what is cut once is cut
  pub cut_again_lem : cut low top (cut low top p) ≡ cut low top p
  cut_again_lem =
      let first : max low start ≡ start = omega arith in
      let none : low - start ≡ 0 = omega arith in
      let part : List ℕ = take (top - start) rest in
      let bytes : take (top - max low start) (drop (low - start) part) ≡ part =
      rw (first, none) (take_all (top - start) part (omega (arith, length-take (top - start) rest))) in
      λ i. record { at = first i; bytes = bytes i }
