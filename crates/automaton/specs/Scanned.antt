-- What looking at new bytes by a table comes to. Assumes nothing.
use Rattle.std.specs.Prelude.{◌≡◌, ℕ, ◌+◌, ◌*◌, ◌<◌, List, [], ◌∷◌, ◌++◌, length, Some, None, Ok, Err, Option, Result, slice_index, slice_index_or}
use Rattle.automaton.specs.Text.{Text}
use Rattle.automaton.specs.Look.{look}
use Rattle.automaton.specs.States.{run}
use Rattle.automaton.specs.Link.{Right}
use Rattle.automaton.specs.declared.scan.Match.{Match}

-- every entry of the rows is a state that tells something or nothing
pub record Sound (rows : List ℕ) (tells : List (Option ℕ)) : Type 0 where
  pub rows_len : length rows ≡ length tells * 256
  pub rows_in : (k : ℕ) → k < length rows → slice_index rows k < length tells

abbrev pub found_or : Option ℕ → ℕ → Result ℕ Match → Result ℕ Match
found_or None i more = more
found_or (Some w) i more = Err (record { at = i; word = w })

-- from the state s on, the first of the bytes having the place i
unfoldable pub scanned : List ℕ → List (Option ℕ) → ℕ → ℕ → List ℕ → Result ℕ Match
scanned rows tells s i [] = Ok s
scanned rows tells s i (b ∷ bs) =
    found_or (slice_index_or tells (slice_index rows (s * 256 + b)) None) i (scanned rows tells (slice_index rows (s * 256 + b)) (i + 1) bs)

-- What a look says of the bytes after the text t: no word is completed, and the state after them; or the first byte that completes one, and the longest that it completes.
abbrev pub Judged : List Text → Text → List ℕ → Result ℕ Match → Type 0
Judged ws t bytes (Ok s) = (look ws t bytes ≡ None) × (s ≡ run ws 0 (t ++ bytes))
Judged ws t bytes (Err m) = (m.at < length bytes) × (m.word < length ws) × (look ws t bytes ≡ Some (record { place = length t + m.at; word = slice_index_or ws m.word [] }))

-- so for every list of words that the table is right for, and every text that leads to the state
abbrev pub Finds : List ℕ → List (Option ℕ) → ℕ → List ℕ → Result ℕ Match → Type 0
Finds rows tells s bytes r = (ws : List Text) (t : Text) → Right ws rows tells → s ≡ run ws 0 t → Judged ws t bytes r

-- a word is found among the n bytes that are looked at
abbrev pub Among : ℕ → Result ℕ Match → Type 0
Among n (Ok s) = Unit {0}
Among n (Err m) = m.at < n
