-- What of a segment lies inside.
-- Assumes nothing.
use Rattle.std.proofs.Common.{◌≡◌, ℕ, ◌+◌, ◌-◌, ◌≤◌, min, max, List, length, take, drop, Some, None, Option, sym, refl, ap, ◌∙◌, inl, inr, arith}
use Rattle.std.specs.List.{between}
use Rattle.std.proofs.lemmas.List.{drop-drop, length-drop, drop_all}
use Rattle.std.proofs.lemmas.Bool.{cases_lt}
use Rattle.sequence.specs.declared.Place.{Place}
use Rattle.sequence.specs.declared.Place.TheVariants.{Below, At}
use Rattle.window.specs.Known.{Within, cut, piece}
use Rattle.window.specs.Ring.{Cut}
use Rattle.stream.specs.Part.{PartOf}
use Rattle.stream.specs.Stream.{piece_at, places, up_to}

top_same : (low w : ℕ) (fin : Option ℕ) (limit : ℕ) → limit ≡ up_to fin places → min limit (low + w) ≡ up_to fin (min (low + w) places)
top_same low w None limit e = omega arith
top_same low w (Some f) limit e = omega arith

limit_most : (fin : Option ℕ) → up_to fin places ≤ places
limit_most None = omega arith
limit_most (Some f) = omega arith

-- where a segment's bytes from place 0 on begin
pub record Starts (at : Place) (len first skip : ℕ) : Type 0 where
  pub within : skip ≤ len
  pub is : (bs : List ℕ) → length bs ≡ len → piece_at at bs ≡ piece first (drop skip bs)

pub starts_at : (i len : ℕ) → Starts (At i) len i 0
starts_at i len = record { within = omega arith; is = λ bs e. refl }

pub starts_below : (n len : ℕ) → Starts (Below n) len 0 (min n len)
starts_below n len = record {
  within = omega arith;
  is = λ bs e. elim (cases_lt len n) [
    | inl l ↦
        let m : min n len ≡ len = omega arith in
        ap (piece 0) (drop_all n bs (omega arith) ∙ sym (ap (λ k. drop k bs) m ∙ drop_all len bs (omega arith)))
    | inr l ↦ let m : n ≡ min n len = omega arith in ap (λ k. piece 0 (drop k bs)) m
  ];
}

pub part_of : (low w : ℕ) (fin : Option ℕ) (at : Place) (len limit first skip start stop place : ℕ) → limit ≡ up_to fin places → Starts at len first skip →
    Cut low (min limit (low + w)) first (len - skip) start stop → Within low w (first + start) (stop - start) → place ≡ max first low →
    PartOf low w fin at len (record { start = skip + start; end = skip + stop; place = place })
part_of low w fin at len limit first skip start stop place el s c wi ep =
    let es : skip + stop - (skip + start) ≡ stop - start = omega arith in
    let et = top_same low w fin limit el in
    record {
      ordered = omega (arith, c.ordered);
      ends = omega (arith, c.ends, s.within);
      within = record {
        above = λ l. let f = c.first (omega arith) in omega (arith, wi.above (omega arith));
        below = λ l. let f = c.first (omega arith) in omega (arith, wi.below (omega arith));
      };
      fits = λ l. let f = c.first (omega arith) in let t = c.last (omega arith) in let h = limit_most fin in omega arith;
      is = λ bs e.
          let d : length (drop skip bs) ≡ len - skip = length-drop skip bs ∙ ap (λ n. n - skip) e in
          let b : between (skip + start) (skip + stop) bs ≡ between start stop (drop skip bs) =
          ap (λ n. take n (drop (skip + start) bs)) es ∙ ap (take (stop - start)) (sym (drop-drop start skip bs)) in
          let m : place ≡ max low first = omega arith in
          ap (piece place) b ∙ ap (λ x. piece x (between start stop (drop skip bs))) m ∙ ap (piece (max low first)) (c.bytes (drop skip bs) d)
          ∙ ap (λ top. cut low top (piece first (drop skip bs))) et ∙ ap (cut low (up_to fin (min (low + w) places))) (sym (s.is bs e));
    }
