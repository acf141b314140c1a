-- What comes to one direction of a stream, what is done with it, and runs over all that comes. Assumes nothing.
use Rattle.std.specs.Prelude.{ℕ, Bool, true, false, cond, not, ◌&&◌, List, [], ◌∷◌, ◌++◌, length, is_some, Some, None, Option}
use Rattle.automaton.specs.Text.{Text}
use Rattle.automaton.specs.Look.{Found, look}
use Rattle.sequence.specs.declared.Place.{Place}
use Rattle.sequence.specs.Places.{place_after}
use Rattle.window.specs.Known.{Piece}
use Rattle.stream.specs.Stream.{Stream, piece_at, inner, next_known, new_text, passed_part, kept_fin, shut_down, acknowledged_to, taken}

-- a segment of the sender's: the place of its first byte, its bytes, and whether FIN stands after them
pub record Segment : Type 0 where
  pub at : Place
  pub bytes : Text
  pub fin : Bool

-- a segment comes, or the receiver acknowledges a place
pub data Arrival : Type 0 where
  Arrives : Segment → Arrival
  Acked : Place → Arrival

abbrev pub piece_of : Segment → Piece
piece_of a = piece_at a.at a.bytes

-- the place of the segment's FIN, unless it lies below place 0
abbrev pub fin_at : Segment → Option ℕ
fin_at a = cond a.fin (place_after a.at (length a.bytes)) None

-- what is left of a segment: its bytes inside the window, the known byte in place of what came, and its FIN if that is kept
abbrev pub piece_left : ℕ → Stream → Segment → Piece
piece_left width s a = record { at = (inner width s (piece_of a)).at; bytes = passed_part width s (piece_of a) }

abbrev pub fin_left : ℕ → Stream → Segment → Option ℕ
fin_left width s a = kept_fin width s (next_known width s (piece_of a)) (fin_at a)

-- what is done with a segment
-- Passed: what is left goes on, the piece and the place of the FIN. Empty: neither a byte nor a FIN is left, and nothing changes.
-- Word: a word would stand in the text; nothing goes on, and the stream is shut. Closed: it was shut before.
pub data Outcome : Type 0 where
  Passed : Piece → Option ℕ → Outcome
  Empty : Outcome
  Word : Found → Outcome
  Closed : Outcome

abbrev pub is_empty : Text → Bool
is_empty [] = true
is_empty (b ∷ bs) = false

abbrev pub on_look : Piece → Option ℕ → Option Found → Outcome
on_look p fin (Some found) = Word found
on_look p fin None = cond (is_empty p.bytes && not (is_some fin)) Empty (Passed p fin)

-- the new bytes of the text are looked at first
abbrev pub outcome : ℕ → List Text → Stream → Segment → Outcome
outcome width words s a =
    let looked : Option Found = look words s.text (new_text width s (piece_of a)) in
    cond s.shut Closed (on_look (piece_left width s a) (fin_left width s a) looked)

-- the stream then
abbrev pub after : ℕ → Stream → Segment → Outcome → Stream
after width s a (Passed p fin) = taken width (piece_of a) fin s
after width s a Empty = s
after width s a (Word found) = shut_down s
after width s a Closed = s

-- a stream that is shut stays as it is
abbrev pub step : ℕ → List Text → Stream → Arrival → Stream
step width words s (Arrives a) = after width s a (outcome width words s a)
step width words s (Acked i) = cond s.shut s (acknowledged_to i s)

-- the pieces that go out, none of them without a byte, and the places of FINs that go out
abbrev pub piece_in : Text → Piece → List Piece
piece_in [] p = []
piece_in (b ∷ bs) p = p ∷ []

abbrev pub fin_in : Option ℕ → List ℕ
fin_in None = []
fin_in (Some f) = f ∷ []

abbrev pub pieces_of : Outcome → List Piece
pieces_of (Passed p fin) = piece_in p.bytes p
pieces_of Empty = []
pieces_of (Word found) = []
pieces_of Closed = []

abbrev pub fins_of : Outcome → List ℕ
fins_of (Passed p fin) = fin_in fin
fins_of Empty = []
fins_of (Word found) = []
fins_of Closed = []

abbrev pub passed_by : ℕ → List Text → Stream → Arrival → List Piece
passed_by width words s (Arrives a) = pieces_of (outcome width words s a)
passed_by width words s (Acked i) = []

abbrev pub fins_by : ℕ → List Text → Stream → Arrival → List ℕ
fins_by width words s (Arrives a) = fins_of (outcome width words s a)
fins_by width words s (Acked i) = []

-- Runs

unfoldable pub run : ℕ → List Text → Stream → List Arrival → Stream
run width words s [] = s
run width words s (a ∷ arrivals) = run width words (step width words s a) arrivals

-- all pieces and all FINs that went out
unfoldable pub passed : ℕ → List Text → Stream → List Arrival → List Piece
passed width words s [] = []
passed width words s (a ∷ arrivals) = passed_by width words s a ++ passed width words (step width words s a) arrivals

unfoldable pub fins : ℕ → List Text → Stream → List Arrival → List ℕ
fins width words s [] = []
fins width words s (a ∷ arrivals) = fins_by width words s a ++ fins width words (step width words s a) arrivals
