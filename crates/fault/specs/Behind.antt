-- Errors in a longer input. Assumes nothing.
use Rattle.std.specs.Prelude.{◌≡◌, ℕ, ◌+◌, ◌%◌, ◌^◌}
use Rattle.fault.specs.declared.ReadError.{ReadError}
use Rattle.fault.specs.declared.ReadError.TheVariants.{Memory, Fault}

-- An error in the part of an input behind its first n bytes, as the whole has it: a refusal becomes one of the whole's, places are counted modulo 2^64.
abbrev pub Behind : {R S : Type 0} → (R → S → Type 0) → ℕ → ReadError R → ReadError S → Type 0
Behind gives n Memory Memory = Unit {0}
Behind gives n (Fault f) (Fault g) = gives f.refusal g.refusal × (g.at ≡ (n + f.at) % 2 ^ 64)
Behind gives n Memory (Fault g) = ⊥
Behind gives n (Fault f) Memory = ⊥
