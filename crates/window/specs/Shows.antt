-- A window that forgets serves as well as a map that never does. Assumes nothing.
use Rattle.std.specs.Prelude.{◌≡◌, ℕ, ◌+◌, ◌≤◌, cond, List, length, None}
use Rattle.window.specs.Known.{Known, Piece, Within, inside, learn, overlay, forget, onwards, none_known}

-- of all that was ever known, f, a window shows k: the places inside it, above which nothing is known
pub record Shows (low width : ℕ) (f k : Known) : Type 0 where
  pub shown : (i : ℕ) → k i ≡ cond (inside low width i) (f i) None
  pub beyond : (i : ℕ) → low + width ≤ i → f i ≡ None

-- From low on, the same byte is known, overlaid and read onwards by either. Both learn alike, and low may move up.
pub record Serves (low width : ℕ) (f k : Known) : Type 0 where
  pub same : (i : ℕ) → low ≤ i → k i ≡ f i
  pub overlays : (i : ℕ) (bs : List ℕ) → low ≤ i → overlay k i bs ≡ overlay f i bs
  pub reads : (n i : ℕ) → low ≤ i → onwards n i k ≡ onwards n i f
  pub misses : (n i : ℕ) → low ≤ i → none_known n i k ≡ none_known n i f
  pub learns : (p : Piece) → Within low width p.at (length p.bytes) → Shows low width (learn p f) (learn p k)
  pub forgets : (new : ℕ) → low ≤ new → Shows new width f (forget new k)

abbrev pub WindowServes : Type 0
WindowServes = (low width : ℕ) (f k : Known) → Shows low width f k → Serves low width f k
