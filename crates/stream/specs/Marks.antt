-- How the marks of a stream move. Assumes nothing.
use Rattle.std.specs.Prelude.{ℕ, ◌+◌, min, max, cond, ◌&&◌, is_some, Option}
use Rattle.sequence.specs.declared.Place.{Place}
use Rattle.sequence.specs.declared.Place.TheVariants.{Below, At}
use Rattle.stream.specs.Stream.{none_elsewhere}

-- low rises to an acknowledged place, but not above the end of the text
abbrev pub low_after : ℕ → ℕ → Place → ℕ
low_after low end (Below n) = low
low_after low end (At i) = max low (min i end)

-- up to where the receiver may acknowledge
abbrev pub limit_of : ℕ → Option ℕ → ℕ
limit_of end fin = cond (is_some fin && none_elsewhere fin end) (end + 1) end
