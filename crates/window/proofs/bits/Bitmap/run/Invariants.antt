use Rattle.std.proofs.Common.{◌≡◌, ℕ, ◌+◌, ◌*◌, ◌<◌}
use Rattle.window.specs.Ring.{bit}
use Rattle.window.proofs.bits.Bitmap.run.Given as goal

-- the bits of the words so far are alike
abbrev pub invariant-loop-word : goal.invariant-loop-word
invariant-loop-word l = (k : ℕ) → k < l.count → l.from + k < l.word * 64 → bit l.self.words.items (l.from + k) ≡ l.value
