-- The kinds of what stands in the input, by their numbers. Assumes nothing.
use Rattle.std.specs.Prelude.{◌≡◌, ◌≢◌, ℕ, Ok, Err, Result}
use Rattle.frames.specs.declared.refusal.Refusal.{Refusal}
use Rattle.frames.specs.declared.refusal.Refusal.TheVariants.{Bad}
use Rattle.frames.specs.declared.read.Kind.{Kind}
use Rattle.frames.specs.declared.read.Kind.TheVariants.{Config, Packet, Ticks}

-- the kind that a number names, if it names one
abbrev pub KindOf : ℕ → Result Kind Refusal → Type 0
KindOf n (Ok Packet) = n ≡ 1
KindOf n (Ok Ticks) = n ≡ 2
KindOf n (Ok Config) = n ≡ 3
KindOf n (Err why) = (n ≢ 1) × (n ≢ 2) × (n ≢ 3) × (why ≡ Bad)
