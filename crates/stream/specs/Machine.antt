-- A machine behind the gate, which may keep what it had or take what comes, byte by byte, as it likes. Assumes nothing.
use Rattle.std.specs.Prelude.{◌≡◌, ℕ, Bool, true, false, cond, List, [], ◌++◌, length, Some, None, Option}
use mathlib.Core.List.{Memᴰ}
use Rattle.std.specs.List.{slice_get}
use Rattle.automaton.specs.Text.{Text}
use Rattle.window.specs.Known.{Known, Piece, byte_of, onwards}

-- has: the bytes that it has stored; given: all that its program was given
pub record Machine : Type 0 where
  pub has : Known
  pub given : Text

abbrev pub blank : Machine
blank = record { has = λ j. None; given = [] }

-- does it keep the byte that it had, what it had, what comes
abbrev pub keep_or : Bool → Option ℕ → Option ℕ → Option ℕ
keep_or keep None came = came
keep_or keep (Some b) None = Some b
keep_or true (Some b) (Some c) = Some b
keep_or false (Some b) (Some c) = Some c

-- a run of a machine to which only these pieces come: each when it likes, as often as it likes, or never
pub data Plays (pieces : List Piece) : Machine → Type 0 where
  starts : Plays pieces blank
  -- a piece comes; for each place, whether it keeps what it had
  stores : {m : Machine} → Plays pieces m → (p : Piece) → Memᴰ p pieces → (keeps : ℕ → Bool) →
      Plays pieces (record { has = λ j. keep_or (keeps j) (m.has j) (byte_of p j); given = m.given })
  -- it forgets what it had stored, but at the places that it keeps
  forgets : {m : Machine} → Plays pieces m → (keeps : ℕ → Bool) → Plays pieces (record { has = λ j. cond (keeps j) (m.has j) None; given = m.given })
  -- its program is given up to n bytes more, as far as it has them without a gap
  gives : {m : Machine} → Plays pieces m → (n : ℕ) →
      Plays pieces (record { has = m.has; given = m.given ++ onwards n (length m.given) m.has })

-- some machine may have given its program this text: each byte of it stands at its place in one of the pieces
abbrev pub Given : List Piece → Text → Type 0
Given pieces t = (i b : ℕ) → slice_get t i ≡ Some b → (p : Piece) × Memᴰ p pieces × (byte_of p i ≡ Some b)

-- whatever a machine has given its program is such a text
abbrev pub MachinesGive : Type 0
MachinesGive = (pieces : List Piece) (m : Machine) → Plays pieces m → Given pieces m.given
