-- Laws of numbers and places, in the subject's own words. Each is a type; a proof of the type is the theorem. Assumes nothing.
use Rattle.std.specs.Prelude.{◌≡◌, ℕ, ◌+◌, ◌-◌, ◌%◌, ◌<◌, ◌≤◌, ◌⊎◌}
use Rattle.sequence.specs.declared.Place.{Place}
use Rattle.sequence.specs.declared.Place.TheVariants.{Below, At}
use Rattle.sequence.specs.Places.{number_of, place_of}

-- a number stands for a place that is congruent to it; only a place below 0 is written as Below
abbrev pub Stands : ℕ → ℕ → Place → Type 0
Stands first n (At i) = number_of first i ≡ n % 4294967296
Stands first n (Below m) = (0 < m) × ((n + m) % 4294967296 ≡ first % 4294967296)

abbrev pub distance : ℕ → Place → ℕ
distance low (At i) = (i - low) + (low - i)
distance low (Below m) = low + m

abbrev pub Lower : Place → Place → Type 0
Lower (At i) (At j) = i < j
Lower (At i) (Below m) = ⊥
Lower (Below m) (At i) = Unit {0}
Lower (Below m) (Below k) = k < m

-- p is nearer to low than q, or as near and higher
abbrev pub Nearer : ℕ → Place → Place → Type 0
Nearer low p q = (distance low p < distance low q) ⊎ ((distance low p ≡ distance low q) × Lower q p)

-- a place at most half the circle from low, on the lower side not quite half
pub record Near (first low n i : ℕ) : Type 0 where
  pub congruent : number_of first i ≡ n % 4294967296
  pub high : i ≤ low + 2147483648
  pub deep : low < i + 2147483648

pub record PlaceLaw : Type 0 where
  -- the place of a number is congruent to it, and nearer than any other that is: of two equally near the higher
  pub stands : (first low n : ℕ) → Stands first n (place_of first low n)
  pub nearest : (first low n : ℕ) (p : Place) → Stands first n p → (p ≡ place_of first low n) ⊎ Nearer low (place_of first low n) p
  -- so it is the one near low, and it lies below 0 only where no place is such
  pub near : (first low n i : ℕ) → place_of first low n ≡ At i → Near first low n i
  pub only : (first low n i : ℕ) → Near first low n i → place_of first low n ≡ At i
  pub below : (first low n m : ℕ) → place_of first low n ≡ Below m → (i : ℕ) → Near first low n i → ⊥
  -- the number of a place near low stands for that place
  pub back : (first low i : ℕ) → i ≤ low + 2147483648 → low < i + 2147483648 → place_of first low (number_of first i) ≡ At i
