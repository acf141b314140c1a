-- What holds of every window.
-- Assumes nothing.
use Rattle.std.proofs.Common.{◌≡◌, ℕ, ◌+◌, ◌≤◌, None}
use Rattle.window.specs.Window.{knows, width}
use Rattle.window.specs.declared.Window.{Window}
use Rattle.window.proofs.KnownLaws.{inside-above}
use Rattle.window.proofs.WindowLaws.{knows_outside}

pub knows-above : (w : Window) (j : ℕ) → w.low + width w ≤ j → knows w j ≡ None
knows-above w j l = knows_outside w j (inside-above w.low (width w) j l)

pub width_most : (w : Window) → width w ≤ 65536
width_most w = w.ring.most
