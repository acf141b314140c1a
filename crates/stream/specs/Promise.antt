-- What is promised of one direction of a stream, whatever comes, with places already worked out. Each is a type; a proof of the type is the theorem. Assumes nothing.
use Rattle.std.specs.Prelude.{◌≡◌, ℕ, zero, suc, ◌+◌, ◌<◌, ◌≤◌, min, max, Bool, true, false, ◌⊎◌, List, [], ◌∷◌, ◌++◌, length, Some, None, Option, ◌≢◌}
use mathlib.Core.List.{Memᴰ}
use Rattle.std.specs.List.{slice_get}
use Rattle.std.specs.Option.{unwrap_or}
use Rattle.automaton.specs.Text.{Text, has, nonempty}
use Rattle.automaton.specs.Look.{Found}
use Rattle.automaton.specs.LookLaw.{FirstWord}
use Rattle.sequence.specs.declared.Place.TheVariants.{Below, At}
use Rattle.window.specs.Known.{Piece, byte_of}
use Rattle.stream.specs.Stream.{Stream, blank, window_end, up_to, inner, next_known, ack_limit}
use Rattle.stream.specs.Steps.{Segment, Arrival, Arrives, Acked, piece_of, fin_at, Word, outcome, step, passed_by, fins_by, run, passed, fins}
use Rattle.stream.specs.Machine.{Machine, Plays, Given}

-- a text is a first part of another
abbrev pub FirstPart : Text → Text → Type 0
FirstPart t u = (more : Text) × (u ≡ t ++ more)

-- The text is all that is known without a gap from place 0 on, and no more; no word stands in it;
-- nothing is known past the window, or at or after a known FIN.
pub record Sound (width : ℕ) (words : List Text) (s : Stream) : Type 0 where
  pub text_known : (j b : ℕ) → slice_get s.text j ≡ Some b → s.known j ≡ Some b
  pub text_ends : s.known (length s.text) ≡ None
  pub clean : has words s.text ≡ false
  pub low_text : s.low ≤ length s.text
  pub above : (j : ℕ) → window_end width s ≤ j → s.known j ≡ None
  pub fin_within : (f : ℕ) → s.fin ≡ Some f → f < window_end width s
  pub fin_last : (f j : ℕ) → s.fin ≡ Some f → f ≤ j → s.known j ≡ None

-- What is done next

-- a place inside: in the window, and before a known FIN
pub record Inner (width : ℕ) (s : Stream) (j : ℕ) : Type 0 where
  pub above : s.low ≤ j
  pub below : j < up_to s.fin (window_end width s)

-- the segment has a byte at the place j, inside; d is the known byte there, if any, else that one
pub record Came (width : ℕ) (s : Stream) (a : Segment) (j d : ℕ) : Type 0 where
  pub byte : ℕ
  pub there : byte_of (piece_of a) j ≡ Some byte
  pub within : Inner width s j
  pub known : d ≡ unwrap_or (s.known j) byte

-- the segment's FIN stands at f, in the window, with no FIN known elsewhere and no byte known at or after it
pub record FinFits (width : ℕ) (s : Stream) (a : Segment) (f : ℕ) : Type 0 where
  pub there : fin_at a ≡ Some f
  pub above : s.low ≤ f
  pub below : f < window_end width s
  pub no_other : (h : ℕ) → s.fin ≡ Some h → h ≡ f
  pub last : (j : ℕ) → f ≤ j → next_known width s (piece_of a) j ≡ None

-- while the stream stays open, of a segment go out the bytes inside, in one piece, and no others: each at its place, the known byte in place of what came;
-- and its FIN, if it may stand there. shut: is the stream shut then; pieces, finished: what goes out
pub record PassedOn (width : ℕ) (s : Stream) (a : Segment) (shut : Bool) (pieces : List Piece) (finished : List ℕ) : Type 0 where
  pub one : length pieces ≤ 1
  pub some : (q : Piece) → Memᴰ q pieces → (j : ℕ) × (d : ℕ) × (byte_of q j ≡ Some d)
  pub all : shut ≡ false → (j b : ℕ) → byte_of (piece_of a) j ≡ Some b → Inner width s j → (q : Piece) × Memᴰ q pieces × (byte_of q j ≡ Some (unwrap_or (s.known j) b))
  pub only : (q : Piece) → Memᴰ q pieces → (j d : ℕ) → byte_of q j ≡ Some d → Came width s a j d
  pub fin : shut ≡ false → (f : ℕ) → FinFits width s a f → Memᴰ f finished
  pub fin_only : (f : ℕ) → Memᴰ f finished → FinFits width s a f

-- with the segment the text would go on to one that has a word in it, each byte of which was known before or is the segment's own;
-- what is found is the first byte that completes a word, and the longest word that it completes
pub record WordCame (width : ℕ) (words : List Text) (s : Stream) (a : Segment) : Type 0 where
  pub more : Text
  pub bytes : (j b : ℕ) → slice_get (s.text ++ more) j ≡ Some b → (s.known j ≡ Some b) ⊎ (byte_of (inner width s (piece_of a)) j ≡ Some b)
  pub word : has words (s.text ++ more) ≡ true
  pub found : Found
  pub first : FirstWord words s.text more found
  pub is : outcome width words s a ≡ Word found

pub record Next (width : ℕ) (words : List Text) (s : Stream) : Type 0 where
  pub passed_on : (a : Segment) → PassedOn width s a (step width words s (Arrives a)).shut (passed_by width words s (Arrives a)) (fins_by width words s (Arrives a))
  -- what lies outside the window changes nothing: all depends on the part inside, and on where the FIN stands
  pub alike : (a b : Segment) → inner width s (piece_of a) ≡ inner width s (piece_of b) → fin_at a ≡ fin_at b →
      (outcome width words s a ≡ outcome width words s b) × (step width words s (Arrives a) ≡ step width words s (Arrives b))
  pub cut_again : (p : Piece) → inner width s (inner width s p) ≡ inner width s p
  -- the stream is shut only for a word
  pub shuts : (a : Segment) → s.shut ≡ false → (step width words s (Arrives a)).shut ≡ true → WordCame width words s a
  -- once shut it stays as it is, and nothing goes out
  pub stays : s.shut ≡ true → (a : Arrival) → (step width words s a ≡ s) × (passed_by width words s a ≡ []) × (fins_by width words s a ≡ [])
  -- only what came becomes known
  pub learns : (a : Segment) (j b : ℕ) → (step width words s (Arrives a)).known j ≡ Some b → (s.known j ≡ Some b) ⊎ (byte_of (inner width s (piece_of a)) j ≡ Some b)
  pub learns_fin : (a : Segment) (f : ℕ) → (step width words s (Arrives a)).fin ≡ Some f → (s.fin ≡ Some f) ⊎ (fin_at a ≡ Some f)
  -- what is known stays known, and the text only grows
  pub keeps : (a : Arrival) (j b : ℕ) → s.known j ≡ Some b → (step width words s a).known j ≡ Some b
  pub keeps_fin : (a : Arrival) (f : ℕ) → s.fin ≡ Some f → (step width words s a).fin ≡ Some f
  pub grows : (a : Arrival) → FirstPart s.text (step width words s a).text
  -- low moves by acknowledgements alone, up to the end of the text; these change nothing else
  pub low : (a : Segment) → (step width words s (Arrives a)).low ≡ s.low
  pub acked : (i : ℕ) → s.shut ≡ false → step width words s (Acked (At i)) ≡
      record { low = max s.low (min i (length s.text)); known = s.known; text = s.text; fin = s.fin; shut = s.shut }
  pub acked_below : (n : ℕ) → step width words s (Acked (Below n)) ≡ s
  -- the receiver may acknowledge up to the end of the text, and one more where the known FIN stands there
  pub limit : (s.fin ≢ Some (length s.text)) → ack_limit s ≡ length s.text
  pub limit_fin : s.fin ≡ Some (length s.text) → ack_limit s ≡ length s.text + 1

-- What the sender says

-- a source: one byte for each place, and perhaps an end
pub record Source : Type 0 where
  pub says : ℕ → ℕ
  pub end : Option ℕ

abbrev pub BeforeEnd : Option ℕ → ℕ → Type 0
BeforeEnd None j = Unit {0}
BeforeEnd (Some f) j = j < f

-- the source says this byte at this place
abbrev pub Says : Source → ℕ → ℕ → Type 0
Says source j b = (source.says j ≡ b) × BeforeEnd source.end j

-- a segment says what the source says: each byte at its place, none at or after the end, FIN only at the end
pub record Agrees (source : Source) (a : Segment) : Type 0 where
  pub bytes : (j b : ℕ) → byte_of (piece_of a) j ≡ Some b → Says source j b
  pub finish : (f : ℕ) → fin_at a ≡ Some f → source.end ≡ Some f

abbrev pub Honest : Source → List Arrival → Type 0
Honest source arrivals = (a : Segment) → Memᴰ (Arrives a) arrivals → Agrees source a

-- the bytes of a source from a place on
unfoldable pub front : (ℕ → ℕ) → ℕ → ℕ → Text
front says i zero = []
front says i (suc n) = says i ∷ front says (i + 1) n

-- a text is what the source says from place 0 on, and does not reach past its end
pub record FrontOf (source : Source) (t : Text) : Type 0 where
  pub is : t ≡ front source.says 0 (length t)
  pub within : (f : ℕ) → source.end ≡ Some f → length t ≤ f

-- while the stream stays open, a segment goes out with each of its bytes that lies in the window, at its place and as it came; and with its FIN, if that lies in the window
pub record GoesOut (width : ℕ) (s : Stream) (a : Segment) (shut : Bool) (pieces : List Piece) (finished : List ℕ) : Type 0 where
  pub bytes : shut ≡ false → (j b : ℕ) → byte_of (piece_of a) j ≡ Some b → s.low ≤ j → j < window_end width s → (q : Piece) × Memᴰ q pieces × (byte_of q j ≡ Some b)
  pub finish : shut ≡ false → (f : ℕ) → fin_at a ≡ Some f → s.low ≤ f → f < window_end width s → Memᴰ f finished

-- from an honest sender nothing is changed: the stream as it is then, and all that went out
pub record Unharmed (words : List Text) (source : Source) (s : Stream) (pieces : List Piece) (finished : List ℕ) : Type 0 where
  pub text : FrontOf source s.text
  -- what goes out is what the source says, and what a machine is given of it is a front of the source
  pub says : (q : Piece) → Memᴰ q pieces → (j b : ℕ) → byte_of q j ≡ Some b → Says source j b
  pub finish : (f : ℕ) → Memᴰ f finished → source.end ≡ Some f
  pub given : (t : Text) → Given pieces t → FrontOf source t
  -- the stream is shut only if a word stands in what the source says
  pub shuts : s.shut ≡ true → (t : Text) × FrontOf source t × (has words t ≡ true)

-- The promise for one stream

-- all that went out says one thing of each place, and the text says the same
pub record OneText (words : List Text) (text : Text) (pieces : List Piece) (finished : List ℕ) : Type 0 where
  -- any two pieces say the same wherever both have a byte
  pub agree : (p q : Piece) → Memᴰ p pieces → Memᴰ q pieces → (j b d : ℕ) → byte_of p j ≡ Some b → byte_of q j ≡ Some d → b ≡ d
  -- all FINs stand at one place, and no byte at or after it
  pub one_fin : (f h : ℕ) → Memᴰ f finished → Memᴰ h finished → f ≡ h
  pub fin_last : (f : ℕ) → Memᴰ f finished → (q : Piece) → Memᴰ q pieces → (j b : ℕ) → byte_of q j ≡ Some b → j < f
  -- whatever a machine may have given its program is a first part of the text
  pub given : (t : Text) → Given pieces t → FirstPart t text
  -- so whatever a machine does with what goes out to it, its program is given a first part of the text, and no word
  pub machines : (m : Machine) → Plays pieces m → FirstPart m.given text × (has words m.given ≡ false)

-- one of the arrivals was a segment with which the text would have got a word; the text is still what it was then
pub record ShutFor (width : ℕ) (words : List Text) (s : Stream) (arrivals : List Arrival) : Type 0 where
  pub before : List Arrival
  pub segment : Segment
  pub rest : List Arrival
  pub splits : arrivals ≡ before ++ (Arrives segment ∷ rest)
  pub was_open : (run width words s before).shut ≡ false
  pub same : (run width words s arrivals).text ≡ (run width words s before).text
  pub word : WordCame width words (run width words s before) segment

-- for all that came to a stream since its beginning
pub record Kept (width : ℕ) (words : List Text) (arrivals : List Arrival) : Type 0 where
  pub one_text : OneText words (run width words blank arrivals).text (passed width words blank arrivals) (fins width words blank arrivals)
  -- the text, what is known, and low
  pub sound : Sound width words (run width words blank arrivals)
  -- the stream is shut only for a segment with which the text would have got a word
  pub shuts : (run width words blank arrivals).shut ≡ true → ShutFor width words blank arrivals
  -- what is done with what comes next
  pub next : Next width words (run width words blank arrivals)
  -- from an honest sender nothing is changed, and nothing is lost of what comes next
  pub honest : (source : Source) → Honest source arrivals →
      Unharmed words source (run width words blank arrivals) (passed width words blank arrivals) (fins width words blank arrivals)
  pub goes_out : (source : Source) → Honest source arrivals → (a : Segment) → Agrees source a →
      GoesOut width (run width words blank arrivals) a (step width words (run width words blank arrivals) (Arrives a)).shut
      (passed_by width words (run width words blank arrivals) (Arrives a)) (fins_by width words (run width words blank arrivals) (Arrives a))

abbrev pub Promise : Type 0
Promise = (width : ℕ) (words : List Text) → nonempty words ≡ true → (arrivals : List Arrival) → Kept width words arrivals
