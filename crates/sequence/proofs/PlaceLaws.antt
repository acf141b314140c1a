-- Numbers and the places for which they stand. Assumes nothing.
use Rattle.std.proofs.Common.{◌≡◌, ℕ, ◌+◌, ◌<◌, ◌≤◌, ◌⊎◌, arith}
use Rattle.std.proofs.lemmas.Grind.{common_steps}
use Rattle.sequence.specs.declared.Place.{Place}
use Rattle.sequence.specs.declared.Place.TheVariants.{Below, At}
use Rattle.sequence.specs.Places.{number_of, place_of}
use Rattle.sequence.specs.Laws.{Stands, Nearer, Near, PlaceLaw}

pub place_stands : (first low n : ℕ) → Stands first n (place_of first low n)
unfolding place_of
place_stands first low n = grind (arith, common_steps)

pub place_near : (first low n i : ℕ) → place_of first low n ≡ At i → Near first low n i
unfolding place_of
place_near first low n i e = record { congruent = grind (arith, common_steps); high = grind (arith, common_steps); deep = grind (arith, common_steps) }

pub place-only : (first low n i : ℕ) → Near first low n i → place_of first low n ≡ At i
unfolding place_of
place-only first low n i near =
    let c = near.congruent in
    let h = near.high in
    let d = near.deep in
    grind (arith, common_steps)

pub place_back : (first low i : ℕ) → i ≤ low + 2147483648 → low < i + 2147483648 → place_of first low (number_of first i) ≡ At i
place_back first low i high deep = place-only first low (number_of first i) i (record { congruent = omega arith; high = high; deep = deep })

pub place_below : (first low n m : ℕ) → place_of first low n ≡ Below m → (i : ℕ) → Near first low n i → ⊥
place_below first low n m e i near = let is = place-only first low n i near in grind (arith, common_steps)

-- any other place for which the number stands lies farther away, or as far and lower
pub place_nearest : (first low n : ℕ) (p : Place) → Stands first n p → (p ≡ place_of first low n) ⊎ Nearer low (place_of first low n) p
unfolding place_of
place_nearest first low n (At i) s = grind (arith, common_steps)
place_nearest first low n (Below k) s = grind (arith, common_steps)

pub place_law : PlaceLaw
place_law = record { stands = place_stands; nearest = place_nearest; near = place_near; only = place-only; below = place_below; back = place_back }
