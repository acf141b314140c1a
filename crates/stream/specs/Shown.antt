-- What a stream's value stands for. Assumes nothing.
use Rattle.std.specs.Prelude.{◌≡◌, ℕ, ◌≤◌, List, [], length, take, drop, Some, None, Ok, Err, Option, Result, slice_index_or}
use Rattle.std.specs.List.{between}
use Rattle.automaton.specs.Text.{Text}
use Rattle.automaton.specs.States as automaton
use Rattle.window.specs.Shows.{Shows}
use Rattle.window.specs.Window.{knows, width}
use Rattle.stream.specs.Stream.{Stream, blank}
use Rattle.stream.specs.Steps.{Arrival, Outcome, Passed, Empty, Word, Closed, run}
use Rattle.stream.specs.declared.stream.Stream.{Stream as Value}
use Rattle.stream.specs.declared.answer.Passed.{Passed as Part}
use Rattle.stream.specs.declared.answer.Refused.{Refused}
use Rattle.stream.specs.declared.answer.Refused.TheVariants as refused

-- the value has the model's marks, the state of the look after its text, and in the ring what is known inside the window
pub record Shown (ws : List Text) (s : Stream) (v : Value) : Type 0 where
  pub low : v.marks.low ≡ s.low
  pub end : v.marks.end ≡ length s.text
  pub fin : v.marks.fin ≡ s.fin
  pub state : v.marks.state ≡ automaton.run ws 0 s.text
  pub shut : v.marks.shut ≡ s.shut
  pub window : v.window.low ≡ s.low
  pub shows : Shows s.low (width v.window) s.known (knows v.window)

-- the value is what all that came to the stream since its beginning makes of it
abbrev pub Stands : List Text → List Arrival → Value → Type 0
Stands ws arrivals v = Shown ws (run (width v.window) ws blank arrivals) v

-- what is answered on a segment
abbrev pub Answer : Type 0
Answer = Result (Option Part) Refused

-- the outcome that an answer stands for, where these bytes are left in the lent memory
abbrev pub outcome_of : List Text → List ℕ → Answer → Outcome
outcome_of ws bytes (Ok (Some p)) = Passed (record { at = p.part.place; bytes = between p.part.start p.part.end bytes }) p.fin
outcome_of ws bytes (Ok None) = Empty
outcome_of ws bytes (Err (refused.Word w)) = Word (record { place = w.place; word = slice_index_or ws w.word [] })
outcome_of ws bytes (Err refused.Shut) = Closed

-- what is left in the lent memory: only the part that goes on may be another
abbrev pub Left : List ℕ → List ℕ → Answer → Type 0
Left came bytes (Ok (Some p)) =
    (p.part.start ≤ p.part.end) × (p.part.end ≤ length came) × (take p.part.start bytes ≡ take p.part.start came) × (drop p.part.end bytes ≡ drop p.part.end came)
Left came bytes (Ok None) = bytes ≡ came
Left came bytes (Err why) = bytes ≡ came
