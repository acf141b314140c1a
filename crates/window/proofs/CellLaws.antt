-- What the cells of a ring hold, as they are read and written. Assumes nothing.
use Rattle.std.proofs.Common.{◌≡◌, ◌≢◌, ℕ, zero, suc, ◌+◌, ◌-◌, ◌<◌, ◌≤◌, Bool, true, false, cond, not, eqb, ◌⊎◌, List, [], ◌∷◌, ◌++◌, length, get_or, take, drop, Some, None, Option, Decides, refl, sym, ap, ◌∙◌, inl, inr, arith}
use borrow.Rule.Slice.PartMut.{put_mid}
use Rattle.std.proofs.Math.Seq.{drop-append_seam}
use Rattle.std.proofs.lemmas.List.{append-nil, drop_all, take_at, take_rest, ext_get_or, get_or-drop, get_or-take, length-drop, length-take}
use Rattle.std.proofs.lemmas.Bool.{cases_Bool, cases_lt, both_ways, not-true, not-false}
use Rattle.std.proofs.lemmas.Bool.Decides.{same_from_decides, Decides-eqb, Decides-like}
use Rattle.std.proofs.lemmas.Slice.Eq.{slice_eq-Decides}
use Rattle.std.specs.Option.{unwrap_or}
use lib.Pointwise.{pointwise}
use Rattle.window.specs.Known.{Known, inside, none_known, on_byte, onwards, overlay}
use Rattle.window.specs.Ring.{Agrees, Alike, Front, Overlaid, SetRun, bit, cell}
use Rattle.window.proofs.KnownLaws.{front_is, get_or-overlay, inside_cases, none_known_decides, onwards_is, overlay_is}

module _ (bytes words : List ℕ) (k : ℕ) where
  pub cell_set : bit words k ≡ true → cell bytes words k ≡ Some (get_or bytes k 0)
  unfolding cell
  cell_set h = rw h

  pub cell_clear : bit words k ≡ false → cell bytes words k ≡ None
  unfolding cell
  cell_clear h = rw h

  -- a cell is not known exactly where its bit is clear
  cell_none : cell bytes words k ≡ None → bit words k ≡ false
  cell_none e = elim (cases_Bool (bit words k)) [
    | inl t ↦ absurd (let z : Some (get_or bytes k 0) ≡ None = sym (cell_set t) ∙ e in cc)
    | inr t ↦ t
  ]

-- a run of known cells is read onwards
pub known_run : (bytes words : List ℕ) (at count n : ℕ) → Alike words at count true n → at + count ≤ length bytes → take n (drop at bytes) ≡ onwards count at (cell bytes words)
known_run bytes words at count n run fits =
    let long : length (take n (drop at bytes)) ≡ n = simp (length-take, length-drop) (omega (arith, run.most)) in
    onwards_is count at (cell bytes words) (take n (drop at bytes)) (omega (arith, run.most))
    (λ k h.
    let l : k < n = omega arith in
    cell_set bytes words (at + k) (run.each k l) ∙ ap Some (sym (get_or-take n (drop at bytes) k 0 l ∙ get_or-drop at bytes k 0)))
    (λ h. rw long (cell_clear bytes words (at + n) (run.ends (omega arith))))

-- a run of cells that are not known leaves what came
pub unknown_front : (bytes words came : List ℕ) (at n : ℕ) → Alike words at (length came) false n → 0 < n → Front (cell bytes words) at came (take n came)
unknown_front bytes words came at n run some =
    let long : length (take n came) ≡ n = simp length-take (omega (arith, run.most)) in
    record {
      is = front_is (cell bytes words) at came (take n came) (omega (arith, run.most))
          (λ k h.
          let l : k < n = omega arith in
          rw (cell_clear bytes words (at + k) (run.each k l)) (get_or-take n came k 0 l));
      some = λ h. omega arith;
      most = omega (arith, run.most);
    }

on_byte_most : (o : Option ℕ) (n : ℕ) (more : List ℕ) → length more ≤ n → length (on_byte more o) ≤ suc n
on_byte_most None n more h = omega arith
on_byte_most (Some b) n more h = omega arith

pub onwards_most : (n i : ℕ) (f : Known) → length (onwards n i f) ≤ n
unfolding onwards
onwards_most zero i f = omega arith
onwards_most (suc n) i f = on_byte_most (f i) n (onwards n (i + 1) f) (onwards_most n (i + 1) f)

on_byte_front : (o : Option ℕ) (b : ℕ) (more left : List ℕ) → more ≡ take (length more) left → on_byte more o ≡ take (length (on_byte more o)) (unwrap_or o b ∷ left)
on_byte_front None b more left h = refl
on_byte_front (Some x) b more left h = ap (λ xs. x ∷ xs) h

onwards-overlay : (f : Known) (i : ℕ) (came : List ℕ) → onwards (length came) i f ≡ take (length (onwards (length came) i f)) (overlay f i came)
unfolding onwards overlay
onwards-overlay f i [] = refl
onwards-overlay f i (b ∷ bs) = on_byte_front (f i) b (onwards (length bs) (i + 1) f) (overlay f (i + 1) bs) (onwards-overlay f (i + 1) bs)

on_byte_some : (o : Option ℕ) (more : List ℕ) → o ≢ None → 0 < length (on_byte more o)
on_byte_some None more h = absurd (h refl)
on_byte_some (Some b) more h = omega arith

onwards_some : (n i : ℕ) (f : Known) → 0 < n → f i ≢ None → 0 < length (onwards n i f)
unfolding onwards
onwards_some zero i f h some = absurd (omega arith)
onwards_some (suc n) i f h some = on_byte_some (f i) (onwards n (i + 1) f) some

-- what is read onwards stands in place of what came
pub onwards_front : (f : Known) (i : ℕ) (came : List ℕ) → (0 < length came → f i ≢ None) → Front f i came (onwards (length came) i f)
onwards_front f i came some = record {
  is = onwards-overlay f i came;
  some = λ h. onwards_some (length came) i f h (some h);
  most = onwards_most (length came) i f;
}

-- no cell is known exactly where no bit is set
pub none_known_bits : (bytes words : List ℕ) (at count : ℕ) (r : Bool) → Decides r ((k : ℕ) → k < count → bit words (at + k) ≡ false) → r ≡ none_known count at (cell bytes words)
none_known_bits bytes words at count r h =
    same_from_decides r (none_known count at (cell bytes words))
    (Decides-like r (λ clear k l. cell_clear bytes words (at + k) (clear k l)) (λ none k l. cell_none bytes words (at + k) (none k l)) h) (none_known_decides count at (cell bytes words))

-- cells after some were written, or their bits cleared
module _ (bytes words bytes' words' : List ℕ) (at c : ℕ) where
  pub cell_written : (part : List ℕ) → (at ≤ c → c < at + length part → get_or bytes' c 0 ≡ get_or part (c - at) 0) → ((c < at) ⊎ (at + length part ≤ c) → get_or bytes' c 0 ≡ get_or bytes c 0)
      → bit words' c ≡ cond (inside at (length part) c) true (bit words c)
      → cell bytes' words' c ≡ cond (inside at (length part) c) (Some (get_or part (c - at) 0)) (cell bytes words c)
  unfolding cell
  cell_written part here there bits = elim (inside_cases at (length part) c) [
    | inl t ↦ rw (bits, t.0, here t.1 t.2)
    | inr t ↦ rw (bits, t.0, there t.1)
  ]

pub cell_forgotten : (bytes words words' : List ℕ) (at count c : ℕ) → bit words' c ≡ cond (inside at count c) false (bit words c)
    → cell bytes words' c ≡ cond (inside at count c) None (cell bytes words c)
unfolding cell
cell_forgotten bytes words words' at count c bits = elim (inside_cases at count c) [ inl t ↦ rw (bits, t.0) | inr t ↦ rw (bits, t.0) ]

-- the first bytes of some that came are overlaid, up to the cell `next`; the next cells that are known are those from `start` up to `stop`
module _ (bytes words : List ℕ) (at next end start stop : ℕ) (from : at ≤ next) (run : SetRun words next end start stop) where
  pub overlaid_turn : (came xs zs : List ℕ) → Overlaid (cell bytes words) at (next - at) came xs
      → ((k : ℕ) → (k < start - at) ⊎ (stop - at ≤ k) → get_or zs k 0 ≡ get_or xs k 0)
      → ((k : ℕ) → start - at ≤ k → k < stop - at → get_or zs k 0 ≡ get_or bytes (at + k) 0)
      → Overlaid (cell bytes words) at (stop - at) came zs
  overlaid_turn came xs zs so other here = record {
    done = λ k h. elim (cases_lt k (start - at)) [
      | inl l ↦ other k (inl l) ∙ elim (cases_lt k (next - at)) [
        | inl m ↦ so.done k m
        | inr m ↦ rw (cell_clear bytes words (at + k) (run.clear (at + k) (omega arith) (omega arith))) (so.rest k m)
      ]
      | inr l ↦ rw (cell_set bytes words (at + k) (run.set (at + k) (omega arith) (omega arith))) (here k l h)
    ];
    rest = λ k h. other k (inr h) ∙ so.rest k (omega arith);
  }

  pub agrees_turn : (part : List ℕ) → Agrees (cell bytes words) at (next - at) part
      → ((k : ℕ) → start - at ≤ k → k < stop - at → get_or part k 0 ≡ get_or bytes (at + k) 0)
      → Agrees (cell bytes words) at (stop - at) part
  agrees_turn part so here k h = elim (cases_lt k (start - at)) [
    | inl l ↦ elim (cases_lt k (next - at)) [
      | inl m ↦ so k m
      | inr m ↦ rw (cell_clear bytes words (at + k) (run.clear (at + k) (omega arith) (omega arith)))
    ]
    | inr l ↦ rw (cell_set bytes words (at + k) (run.set (at + k) (omega arith) (omega arith))) (sym (here k l h))
  ]

-- up to the end no further cell is known
module _ (bytes words : List ℕ) (at next n : ℕ) (clear : (k : ℕ) → next ≤ k → k < at + n → bit words k ≡ false) where
  pub overlaid_end : (came xs : List ℕ) → n ≡ length came → length xs ≡ length came → at ≤ next → Overlaid (cell bytes words) at (next - at) came xs → xs ≡ overlay (cell bytes words) at came
  overlaid_end came xs e f l so = overlay_is (cell bytes words) at came xs f (λ k h. elim (cases_lt k (next - at)) [
    | inl m ↦ so.done k m
    | inr m ↦ rw (cell_clear bytes words (at + k) (clear (at + k) (omega arith) (omega arith))) (so.rest k m)
  ])

  pub agrees_end : (part : List ℕ) → n ≡ length part → at ≤ next → Agrees (cell bytes words) at (next - at) part → overlay (cell bytes words) at part ≡ part
  agrees_end part e l so = sym (overlay_is (cell bytes words) at part part refl (λ k h. elim (cases_lt k (next - at)) [
    | inl m ↦ sym (so k m)
    | inr m ↦ rw (cell_clear bytes words (at + k) (clear (at + k) (omega arith) (omega arith)))
  ]))

-- a part that `overlay` leaves as it is has the bytes of the cells that are known
pub agrees_known : (bytes words part : List ℕ) (at start stop : ℕ) → overlay (cell bytes words) at part ≡ part → at ≤ start → stop ≤ at + length part
    → ((k : ℕ) → start ≤ k → k < stop → bit words k ≡ true) → (k : ℕ) → start - at ≤ k → k < stop - at → get_or part k 0 ≡ get_or bytes (at + k) 0
agrees_known bytes words part at start stop same l m set k h n =
    let is : get_or (overlay (cell bytes words) at part) k 0 ≡ get_or part k 0 = ap (λ xs. get_or xs k 0) same in
    sym is ∙ get_or-overlay (cell bytes words) at part k (omega arith) ∙ rw (cell_set bytes words (at + k) (set (at + k) (omega arith) (omega arith)))

-- two parts of n bytes are the same where each byte is
module _ (xs ys : List ℕ) (i j n : ℕ) where
  pub parts_each : take n (drop i xs) ≡ take n (drop j ys) → (k : ℕ) → k < n → get_or xs (i + k) 0 ≡ get_or ys (j + k) 0
  parts_each e k h =
      sym (get_or-take n (drop i xs) k 0 h ∙ get_or-drop i xs k 0) ∙ ap (λ zs. get_or zs k 0) e ∙ (get_or-take n (drop j ys) k 0 h ∙ get_or-drop j ys k 0)

  pub parts_same : i + n ≤ length xs → j + n ≤ length ys → ((k : ℕ) → k < n → get_or xs (i + k) 0 ≡ get_or ys (j + k) 0) → take n (drop i xs) ≡ take n (drop j ys)
  parts_same h l each =
      let one : length (take n (drop i xs)) ≡ n = simp (length-take, length-drop) (omega arith) in
      let two : length (take n (drop j ys)) ≡ n = simp (length-take, length-drop) (omega arith) in
      ext_get_or 0 (take n (drop i xs)) (take n (drop j ys)) (one ∙ sym two)
      (λ k m.
      let short : k < n = omega arith in
      (get_or-take n (drop i xs) k 0 short ∙ get_or-drop i xs k 0) ∙ each k short ∙ sym (get_or-take n (drop j ys) k 0 short ∙ get_or-drop j ys k 0))

-- whether a part's bytes differ from those of the cells from `start` up to `stop`
module _ (part bytes : List ℕ) (at start stop : ℕ) (ordered : (at ≤ start) × (start < stop)) (within : stop ≤ at + length part) (fits : stop ≤ length bytes)
    (differs : Bool) (is : differs ≡ not (pointwise eqb (take (stop - at - (start - at)) (drop (start - at) part)) (take (stop - start) (drop start bytes)))) where
  decides : Decides (pointwise eqb (take (stop - start) (drop (start - at) part)) (take (stop - start) (drop start bytes))) (take (stop - start) (drop (start - at) part) ≡ take (stop - start) (drop start bytes))
  decides = slice_eq-Decides Decides-eqb (take (stop - start) (drop (start - at) part)) (take (stop - start) (drop start bytes)) (pointwise eqb (take (stop - start) (drop (start - at) part)) (take (stop - start) (drop start bytes))) refl

  long : stop - at - (start - at) ≡ stop - start
  long = omega arith

  pub same_bytes : differs ≡ false → (k : ℕ) → start - at ≤ k → k < stop - at → get_or part k 0 ≡ get_or bytes (at + k) 0
  same_bytes e k h l =
      let equal : pointwise eqb (take (stop - start) (drop (start - at) part)) (take (stop - start) (drop start bytes)) ≡ true = not-false _ (sym (rw long at is) ∙ e) in
      let one : start - at + (k - (start - at)) ≡ k = omega arith in
      let two : start + (k - (start - at)) ≡ at + k = omega arith in
      rw (one, two) at (parts_each part bytes (start - at) start (stop - start) (decides.0 equal) (k - (start - at)) (omega arith))

  pub other_bytes : differs ≡ true → ((k : ℕ) → start - at ≤ k → k < stop - at → get_or part k 0 ≡ get_or bytes (at + k) 0) → ⊥
  other_bytes e each =
      let unequal : pointwise eqb (take (stop - start) (drop (start - at) part)) (take (stop - start) (drop start bytes)) ≡ false = not-true _ (sym (rw long at is) ∙ e) in
      both_ways _ unequal (decides.1 (parts_same part bytes (start - at) start (stop - start) (omega arith) (omega arith)
      (λ k h. let on : start + k ≡ at + (start - at + k) = omega arith in rw on (each (start - at + k) (omega arith) (omega arith)))))

-- a list of which the first part was written over, and then the rest
pub both_parts : (front back rest : List ℕ) (first : ℕ) → length front ≡ first → put_mid first (length (front ++ rest) - first) (front ++ rest) back ≡ front ++ back
both_parts front back rest first e =
    let none : drop (length (front ++ rest) - first) (drop first (front ++ rest)) ≡ [] = drop_all _ (drop first (front ++ rest)) (simp length-drop (omega arith)) in
    rw (none, take_at front rest first e, append-nil)

pub rest_part : (front rest : List ℕ) (first : ℕ) → length front ≡ first → take (length (front ++ rest) - first) (drop first (front ++ rest)) ≡ rest
rest_part front rest first e = take_rest (front ++ rest) first ∙ rw (← e) (drop-append_seam front rest)
