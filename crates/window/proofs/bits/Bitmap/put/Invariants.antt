use Rattle.std.proofs.Common.{◌≡◌, ℕ, ◌*◌, cond, ◌&&◌, leb, ltb, vec_len}
use Rattle.window.specs.Ring.{bit}
use Rattle.window.proofs.bits.Bitmap.put.Given as goal

-- the bits of the words so far are put
abbrev pub invariant-loop-word : goal.invariant-loop-word
invariant-loop-word l =
    (vec_len l.self.words ≡ vec_len l.fn.self.words)
    × ((k : ℕ) → bit l.self.words.items k ≡ cond (leb l.from k && ltb k l.end && ltb k (l.word * 64)) l.value (bit l.fn.self.words.items k))
