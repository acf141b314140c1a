-- What looking at the new bytes of a text answers. Assumes nothing.
use Rattle.std.specs.Prelude.{◌≡◌, ◌<◌, List, [], ◌++◌, length, Some, None, Ok, Err, Result, slice_index_or}
use Rattle.automaton.specs.Text.{Text}
use Rattle.automaton.specs.Look.{look}
use Rattle.automaton.specs.States.{run}
use Rattle.stream.specs.declared.look.Reached.{Reached}
use Rattle.stream.specs.declared.answer.WordAt.{WordAt}

-- an answer on the bytes that come after a text: where the text ends with them, and the state then; or the word that is found
abbrev pub LookOf : List Text → Text → Text → Result Reached WordAt → Type 0
LookOf ws t more (Ok r) = (look ws t more ≡ None) × (r.end ≡ length (t ++ more)) × (r.state ≡ run ws 0 (t ++ more))
LookOf ws t more (Err w) = (w.word < length ws) × (look ws t more ≡ Some (record { place = w.place; word = slice_index_or ws w.word [] }))
