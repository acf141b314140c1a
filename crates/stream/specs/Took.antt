-- What taking a segment does, and what is then promised. Assumes nothing.
use Rattle.std.specs.Prelude.{◌≡◌, ℕ, ◌^◌, ◌<◌, ◌≤◌, Bool, ◌⊎◌, List, [], ◌∷◌, ◌++◌, Some, None, Ok, Err, MatchBool, Result, ◌≢◌}
use Rattle.std.specs.List.{between}
use Rattle.automaton.specs.Text.{Text}
use Rattle.window.specs.Known.{Piece}
use Rattle.window.specs.Window.{width}
use Rattle.window.specs.declared.error.WindowError.{WindowError}
use Rattle.window.specs.declared.error.WindowError.TheVariants.{BadPower, NoMemory}
use Rattle.stream.specs.Stream.{Stream, blank, inner, passed_part}
use Rattle.stream.specs.Steps.{Arrival, Arrives, Segment, outcome, piece_of, run}
use Rattle.stream.specs.Promise.{Kept}
use Rattle.stream.specs.Shown.{Answer, Stands, outcome_of}
use Rattle.stream.specs.declared.stream.Stream.{Stream as Value}

-- the part that goes on is cut from the bytes that came
abbrev pub Cuts : Text → Text → Answer → Type 0
Cuts inside came (Ok (Some p)) = between p.part.start p.part.end came ≡ inside
Cuts inside came (Ok None) = Unit {0}
Cuts inside came (Err why) = Unit {0}

-- after all that came before, the segment has come too; the answer is the outcome; and the promise for one stream holds of it all
pub record Took (ws : List Text) (before : List Arrival) (a : Segment) (v : Value) (bytes : List ℕ) (r : Answer) : Type 0 where
  pub stands : Stands ws (before ++ (Arrives a ∷ [])) v
  pub answer : outcome (width v.window) ws (run (width v.window) ws blank before) a ≡ outcome_of ws bytes r
  pub cuts : Cuts (inner (width v.window) (run (width v.window) ws blank before) (piece_of a)).bytes a.bytes r
  pub kept : Kept (width v.window) ws (before ++ (Arrives a ∷ []))

-- after all this has come, the value stands for it, and the promise holds of it
pub record Followed (ws : List Text) (arrivals : List Arrival) (v : Value) : Type 0 where
  pub stands : Stands ws arrivals v
  pub kept : Kept (width v.window) ws arrivals

-- whether the known bytes are other ones than those of a piece, as far as it lies inside
abbrev pub Differs : ℕ → Stream → Piece → Bool → Type 0
Differs w s p r = MatchBool r (passed_part w s p ≢ (inner w s p).bytes) (passed_part w s p ≡ (inner w s p).bytes)

-- what comes of making a stream with a window of 2^power places
abbrev pub Made : ℕ → Result Value WindowError → Type 0
Made power (Ok v) = (10 ≤ power) × (power ≤ 16) × (width v.window ≡ 2 ^ power) × ((ws : List Text) → Stands ws [] v)
Made power (Err BadPower) = (power < 10) ⊎ (16 < power)
Made power (Err NoMemory) = (10 ≤ power) × (power ≤ 16)
