-- What of a segment lies inside, as a part of its bytes. Assumes nothing.
use Rattle.std.specs.Prelude.{◌≡◌, ℕ, ◌+◌, ◌-◌, ◌<◌, ◌≤◌, min, Bool, cond, ◌&&◌, List, length, Some, None, Option, nat_le, nat_lt}
use Rattle.std.specs.List.{between}
use Rattle.sequence.specs.declared.Place.{Place}
use Rattle.window.specs.Known.{Known, Within, cut, none_known, piece}
use Rattle.stream.specs.Stream.{none_elsewhere, piece_at, places, up_to}
use Rattle.stream.specs.declared.part.Part.{Part}

-- the part of `len` bytes from a place on that lies in a window of w places from low on, and before a known FIN
pub record PartOf (low w : ℕ) (fin : Option ℕ) (at : Place) (len : ℕ) (r : Part) : Type 0 where
  pub ordered : r.start ≤ r.end
  pub ends : r.end ≤ len
  pub within : Within low w r.place (r.end - r.start)
  pub fits : r.start < r.end → r.place + (r.end - r.start) ≤ places
  pub is : (bs : List ℕ) → length bs ≡ len → piece r.place (between r.start r.end bs) ≡ cut low (up_to fin (min (low + w) places)) (piece_at at bs)

-- a FIN may stand at f, where these bytes are known
abbrev pub fin_may_stand : ℕ → ℕ → Option ℕ → Known → ℕ → Bool
fin_may_stand low w fin known f = nat_le low f && (nat_lt f (min (low + w) places) && (none_elsewhere fin f && none_known (low + w - f) f known))

abbrev pub kept_if : (ℕ → Bool) → Option ℕ → Option ℕ
kept_if test None = None
kept_if test (Some f) = cond (test f) (Some f) None
