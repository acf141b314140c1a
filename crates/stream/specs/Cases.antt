-- Worked cases: the rows of one table, and what holds of each row. Assumes nothing.
use Rattle.std.specs.Prelude.{◌≡◌, ℕ, true, false, List, [], ◌∷◌, Some, None}
use Rattle.std.specs.List.{AllByRecursion}
use Rattle.automaton.specs.Text.{Text}
use Rattle.automaton.specs.States.{states, goto}
use Rattle.sequence.specs.declared.Place.{Place}
use Rattle.sequence.specs.declared.Place.TheVariants.{Below, At}
use Rattle.sequence.specs.Places.{place_of}
use Rattle.window.specs.Known.{piece}
use Rattle.stream.specs.Stream.{Stream, blank}
use Rattle.stream.specs.Steps.{Arrival, Arrives, Acked, Outcome, Passed, Empty, Word, outcome, step, run}

-- what is done with each segment that comes
unfoldable pub outcomes : ℕ → List Text → Stream → List Arrival → List Outcome
outcomes width words s [] = []
outcomes width words s (Arrives a ∷ rest) = outcome width words s a ∷ outcomes width words (step width words s (Arrives a)) rest
outcomes width words s (Acked i ∷ rest) = outcomes width words (step width words s (Acked i)) rest

-- Comes: the window's width, the words, what comes to a stream that begins; what is done with each segment, and the text then.
-- Leads: words; their states, and the state to which a byte leads from a state.
-- Stands: the number of place 0, low, and a number; the place for which it stands.
pub data Row : Type 0 where
  Comes : ℕ → List Text → List Arrival → List Outcome → Text → Row
  Leads : List Text → List Text → ℕ → ℕ → ℕ → Row
  Stands : ℕ → ℕ → ℕ → Place → Row

abbrev pub Holds : Row → Type 0
Holds (Comes width words came done text) = (outcomes width words blank came ≡ done) × ((run width words blank came).text ≡ text)
Holds (Leads words list from byte to) = (states words ≡ list) × (goto words from byte ≡ to)
Holds (Stands first low number place) = place_of first low number ≡ place

abbrev pub bytes_at : ℕ → Text → Arrival
bytes_at i bytes = Arrives (record { at = At i; bytes = bytes; fin = false })

abbrev pub fin_after : ℕ → Text → Arrival
fin_after i bytes = Arrives (record { at = At i; bytes = bytes; fin = true })

-- a is 97, b 98, c 99, d 100, x 120
abbrev pub rows : List Row
rows =
    -- word ab; xa at 0, then b at 2: the second is not passed on, and the stream is shut at place 2
    Comes 16 ((97 ∷ 98 ∷ []) ∷ []) (bytes_at 0 (120 ∷ 97 ∷ []) ∷ bytes_at 2 (98 ∷ []) ∷ [])
    (Passed (piece 0 (120 ∷ 97 ∷ [])) None ∷ Word (record { place = 2; word = 97 ∷ 98 ∷ [] }) ∷ []) (120 ∷ 97 ∷ []) ∷
    -- b at 2, then xa at 0: the first is passed on, the second shuts the stream
    Comes 16 ((97 ∷ 98 ∷ []) ∷ []) (bytes_at 2 (98 ∷ []) ∷ bytes_at 0 (120 ∷ 97 ∷ []) ∷ [])
    (Passed (piece 2 (98 ∷ [])) None ∷ Word (record { place = 2; word = 97 ∷ 98 ∷ [] }) ∷ []) [] ∷
    -- x at 0, a at 0, b at 1: the second goes out as x; the text is xb, no word
    Comes 16 ((97 ∷ 98 ∷ []) ∷ []) (bytes_at 0 (120 ∷ []) ∷ bytes_at 0 (97 ∷ []) ∷ bytes_at 1 (98 ∷ []) ∷ [])
    (Passed (piece 0 (120 ∷ [])) None ∷ Passed (piece 0 (120 ∷ [])) None ∷ Passed (piece 1 (98 ∷ [])) None ∷ []) (120 ∷ 98 ∷ []) ∷
    -- 1,024 places: a byte at place 0 is passed on, one at 1,024 is left off; after 1 was acknowledged it is taken
    Comes 1024 ((97 ∷ 98 ∷ []) ∷ []) (bytes_at 0 (120 ∷ []) ∷ bytes_at 1024 (98 ∷ []) ∷ Acked (At 1) ∷ bytes_at 1024 (98 ∷ []) ∷ [])
    (Passed (piece 0 (120 ∷ [])) None ∷ Empty ∷ Passed (piece 1024 (98 ∷ [])) None ∷ []) (120 ∷ []) ∷
    -- words abc and bd: the states; after ab, d leads to bd
    Leads ((97 ∷ 98 ∷ 99 ∷ []) ∷ (98 ∷ 100 ∷ []) ∷ []) ([] ∷ (97 ∷ []) ∷ (97 ∷ 98 ∷ []) ∷ (97 ∷ 98 ∷ 99 ∷ []) ∷ (98 ∷ []) ∷ (98 ∷ 100 ∷ []) ∷ []) 2 100 5 ∷
    -- place 0 is number 0, low is 5: number 4,294,967,295 is place -1
    Stands 0 5 4294967295 (Below 1) ∷
    -- word aab: the text aaab is shut at its last byte
    Comes 16 ((97 ∷ 97 ∷ 98 ∷ []) ∷ []) (bytes_at 0 (97 ∷ 97 ∷ 97 ∷ 98 ∷ []) ∷ []) (Word (record { place = 3; word = 97 ∷ 97 ∷ 98 ∷ [] }) ∷ []) [] ∷
    -- FIN at place 4, then a byte at 4: the byte is left off
    Comes 16 ((97 ∷ 98 ∷ []) ∷ []) (fin_after 0 (120 ∷ 120 ∷ 120 ∷ 120 ∷ []) ∷ bytes_at 4 (98 ∷ []) ∷ [])
    (Passed (piece 0 (120 ∷ 120 ∷ 120 ∷ 120 ∷ [])) (Some 4) ∷ Empty ∷ []) (120 ∷ 120 ∷ 120 ∷ 120 ∷ []) ∷
    -- bytes up to place 6 are known, then FIN at 4: the mark is taken off
    Comes 16 ((97 ∷ 98 ∷ []) ∷ []) (bytes_at 4 (120 ∷ 120 ∷ []) ∷ fin_after 2 (99 ∷ 99 ∷ []) ∷ [])
    (Passed (piece 4 (120 ∷ 120 ∷ [])) None ∷ Passed (piece 2 (99 ∷ 99 ∷ [])) None ∷ []) [] ∷ []

abbrev pub Cases : Type 0
Cases = AllByRecursion Holds rows
