-- The sides of the gate by their numbers. Assumes nothing.
use Rattle.std.specs.Prelude.{◌≡◌, ℕ, ◌<◌, Ok, Err, Result}
use Rattle.filter.specs.declared.side.NoSuchSide.{NoSuchSide}
use Rattle.filter.specs.declared.side.Side.{Side}
use Rattle.filter.specs.declared.side.Side.TheVariants.{Outside, Looms}

-- the side that a number names, if it names one
abbrev pub SideOf : ℕ → Result Side NoSuchSide → Type 0
SideOf n (Ok Outside) = n ≡ 0
SideOf n (Ok Looms) = n ≡ 1
SideOf n (Err e) = (1 < n) × (e.0 ≡ n)
