-- What of the headers stays when a packet is rewritten. Assumes nothing.
use Rattle.std.specs.Prelude.{◌≡◌, ℕ, ◌<◌, ◌≤◌, ◌⊎◌, Ok}
use Rattle.packet.specs.Bytes.{Bytes, byte}
use Rattle.packet.specs.Packet.{head_length, packet, read, rewrite}

-- a byte of the headers, options among them, that is neither of the length, the sums, the numbers, nor the marks
pub record Untouched (p : Bytes) (j : ℕ) : Type 0 where
  pub within : j < head_length p
  pub length : (j < 2) ⊎ (4 ≤ j)
  pub header_sum : (j < 10) ⊎ (12 ≤ j)
  pub numbers : (j < 24) ⊎ (32 ≤ j)
  pub marks : (j < 33) ⊎ (34 ≤ j)
  pub segment_sum : (j < 36) ⊎ (38 ≤ j)

-- all these are as they came
abbrev pub HeaderKept : Bytes → Bytes → Type 0
HeaderKept p out = (j : ℕ) → Untouched p j → byte j out ≡ byte j p

abbrev pub RewriteKeeps : Type 0
RewriteKeeps = (p : Bytes) → read p ≡ Ok (packet p) → (n a m : ℕ) (bs : Bytes) → HeaderKept p (rewrite (packet p) n a m bs)
