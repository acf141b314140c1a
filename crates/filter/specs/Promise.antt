-- What is promised of the whole gate, at the level of packets as bytes. Each is a type; a proof of the type is the theorem. Assumes nothing.
use Rattle.std.specs.Prelude.{◌≡◌, ℕ, ◌-◌, ◌%◌, ◌<◌, ◌≤◌, min, max, Bool, true, false, cond, not, ◌&&◌, ◌⊎◌, List, [], ◌∷◌, ◌++◌, length, Some, None, Ok, Err, Option, Result, ◌≢◌}
use mathlib.Core.List.{Memᴰ}
use Rattle.automaton.specs.Text.{Text, nonempty}
use Rattle.automaton.specs.Look.{Found}
use Rattle.packet.specs.Bytes.{Bytes}
use Rattle.packet.specs.Packet.{Packet, packet, read}
use Rattle.packet.specs.Header.{HeaderKept}
use Rattle.packet.specs.Laws.{Fresh, IsReset}
use Rattle.sequence.specs.declared.Place.TheVariants.{Below, At}
use Rattle.sequence.specs.Places.{number_of}
use Rattle.window.specs.Known.{Piece}
use Rattle.stream.specs.Stream.{Stream, blank, ack_limit}
use Rattle.stream.specs.Steps.{Arrival, Arrives, Acked, piece_of, fin_at, Word, outcome, piece_in, fin_in}
use Rattle.stream.specs.Steps as steps
use Rattle.stream.specs.Promise.{Sound, OneText, Source, Agrees}
use Rattle.stream.specs.Promise as one_stream
use Rattle.filter.specs.Config.{Config, opposite, Key, same_key, key_from}
use Rattle.filter.specs.declared.side.Side.{Side}
use Rattle.filter.specs.declared.side.Side.TheVariants.{Outside, Looms}
use Rattle.filter.specs.Gate.{Connection, begun, closed, Gate, among, empty, find, full, put, elapsed}
use Rattle.filter.specs.Verdict.{Event, Comes, Ticks, Verdict, Refuse, Forward, Update, Begin, End, Shut, Elapse, Answer, Out, Refused, Resets, Quiet, refusal_of, out_of, to_looms}
use Rattle.filter.specs.Decide.{segment_at, without_fin, syn_alone, acked_at, same_beginning, opens_with_bytes, verdict, next, answer, run}

-- a configuration that can be read: the width is at most 65,536, and no word is empty
pub record Fit (c : Config) : Type 0 where
  pub width : c.width ≤ 65536
  pub words : nonempty c.words ≡ true

-- What happens to one stream

abbrev pub begins_by : Key → Verdict → Bool
begins_by k (Refuse n) = false
begins_by k (Forward side p) = false
begins_by k (Update l s side p) = false
begins_by k (Begin l s p) = same_key k l
begins_by k (End l p) = false
begins_by k (Shut l s loom sender found) = false
begins_by k (Elapse n) = false

-- the event begins the stream, or begins it anew
abbrev pub Begins : Config → Key → Gate → Event → Type 0
Begins c k g e = begins_by k (verdict c g e) ≡ true

-- through the event the stream neither begins anew nor ends
pub record Goes (c : Config) (k : Key) (g : Gate) (e : Event) : Type 0 where
  pub not_anew : begins_by k (verdict c g e) ≡ false
  pub held : among k (next c g e).keys ≡ true

-- something holds of each event, and of the gate to which it comes
abbrev pub Each : Config → (Gate → Event → Type 0) → Gate → List Event → Type 0
Each c P g [] = Unit {0}
Each c P g (e ∷ es) = P g e × Each c P (next c g e) es

-- something holds of one of the events, and of the gate to which it comes
pub data Sometime (c : Config) (P : Gate → Event → Type 0) : Gate → List Event → Type 0 where
  here : {g : Gate} {e : Event} {es : List Event} → P g e → Sometime c P g (e ∷ es)
  later : {g : Gate} {e : Event} {es : List Event} → Sometime c P (next c g e) es → Sometime c P g (e ∷ es)

abbrev pub Stays : Config → Key → Gate → List Event → Type 0
Stays c k = Each c (Goes c k)

-- what is held of the stream's bytes
abbrev pub stream_of : Key → Gate → Stream
stream_of k g = (g.connection k).stream

-- What comes to a stream

abbrev pub segment_read : Key → Result Packet ℕ → Option Packet
segment_read k (Err n) = None
segment_read k (Ok p) = cond (same_key k (key_from Outside p) && (not p.syn && not p.rst)) (Some p) None

-- the segment of the stream's sender that the event brings: neither SYN nor RST
abbrev pub segment_of : Key → Event → Option Packet
segment_of k (Ticks n) = None
segment_of k (Comes Looms p) = None
segment_of k (Comes Outside p) = segment_read k (read p)

abbrev pub ack_read : Key → Result Packet ℕ → Option Packet
ack_read k (Err n) = None
ack_read k (Ok p) = cond (same_key k (key_from Looms p) && (p.ack && (not p.syn && not p.rst))) (Some p) None

-- the segment of the stream's loom that the event brings, with an acknowledged number: neither SYN nor RST
abbrev pub ack_of : Key → Event → Option Packet
ack_of k (Ticks n) = None
ack_of k (Comes Outside p) = None
ack_of k (Comes Looms p) = ack_read k (read p)

abbrev pub arrival : Connection → Option Packet → Option Packet → List Arrival
arrival s (Some p) ack = Arrives (segment_at s p) ∷ []
arrival s None (Some p) = Acked (acked_at s p) ∷ []
arrival s None None = []

-- what an event brings to the stream: a segment of the sender's, an acknowledged place of the loom's, or nothing
abbrev pub arrives : Key → Connection → Event → List Arrival
arrives k s e = arrival s (segment_of k e) (ack_of k e)

unfoldable pub arrivals : Config → Key → Gate → List Event → List Arrival
arrivals c k g [] = []
arrivals c k g (e ∷ es) = arrives k (g.connection k) e ++ arrivals c k (next c g e) es

-- What goes out to a stream's loom, read from the bytes that go out

-- the piece that a packet brings to the loom: its payload at the place that its number stands for; none where it has no byte
abbrev pub piece_out : Key → Connection → Option Bytes → List Piece
piece_out k s None = []
piece_out k s (Some p) = cond (same_key k (key_from Outside (packet p))) (piece_in (packet p).payload (piece_of (segment_at s (packet p)))) []

-- the place of its FIN
abbrev pub fin_out : Key → Connection → Option Bytes → List ℕ
fin_out k s None = []
fin_out k s (Some p) = cond (same_key k (key_from Outside (packet p))) (fin_in (fin_at (segment_at s (packet p)))) []

abbrev pub passed_by : Config → Key → Gate → Event → List Piece
passed_by c k g e = piece_out k (g.connection k) (to_looms (answer c g e))

abbrev pub finished_by : Config → Key → Gate → Event → List ℕ
finished_by c k g e = fin_out k (g.connection k) (to_looms (answer c g e))

-- all pieces and all FINs that went out to the stream's loom
unfoldable pub passed : Config → Key → Gate → List Event → List Piece
passed c k g [] = []
passed c k g (e ∷ es) = passed_by c k g e ++ passed c k (next c g e) es

unfoldable pub finished : Config → Key → Gate → List Event → List ℕ
finished c k g [] = []
finished c k g (e ∷ es) = finished_by c k g e ++ finished c k (next c g e) es

-- The promise for one stream, from a beginning on (g is the gate just after it) up to its next beginning or its end

-- with the segment that this event brings to the stream, which is open, the text would go on to one that has a word in it; text: what it is now
pub record WordCame (c : Config) (k : Key) (text : Text) (g : Gate) (e : Event) : Type 0 where
  pub segment : Packet
  pub came : segment_of k e ≡ Some segment
  pub was_open : (stream_of k g).shut ≡ false
  pub same : (stream_of k g).text ≡ text
  pub word : one_stream.WordCame c.width c.words (stream_of k g) (segment_at (g.connection k) segment)

-- of a segment goes out what is promised for one stream; for another event nothing goes out
pub record PassedOn (c : Config) (k : Key) (g : Gate) (e : Event) : Type 0 where
  pub segment : (p : Packet) → segment_of k e ≡ Some p →
      one_stream.PassedOn c.width (stream_of k g) (segment_at (g.connection k) p) (stream_of k (next c g e)).shut (passed_by c k g e) (finished_by c k g e)
  pub other : segment_of k e ≡ None → (passed_by c k g e ≡ []) × (finished_by c k g e ≡ [])
  -- with an acknowledged number it goes out even where nothing else is left of it
  pub ack : (p : Packet) → segment_of k e ≡ Some p → p.ack ≡ true → (stream_of k g).shut ≡ false → (stream_of k (next c g e)).shut ≡ false →
      (out : Bytes) × (answer c g e ≡ Out Looms out)

-- every segment of the sender's says what the source says
abbrev pub Honest : Config → Key → Source → Gate → List Event → Type 0
Honest c k source = Each c (λ g e. (p : Packet) → segment_of k e ≡ Some p → Agrees source (segment_at (g.connection k) p))

-- each of them goes out, as far as it lies in the window, while the stream stays open
abbrev pub GoesOut : Config → Key → Gate → Event → Type 0
GoesOut c k g e =
    (p : Packet) → segment_of k e ≡ Some p →
    one_stream.GoesOut c.width (stream_of k g) (segment_at (g.connection k) p) (stream_of k (next c g e)).shut (passed_by c k g e) (finished_by c k g e)

-- from an honest sender nothing is changed, and nothing is lost
pub record Unharmed (c : Config) (k : Key) (source : Source) (g : Gate) (after : List Event) : Type 0 where
  pub unchanged : one_stream.Unharmed c.words source (stream_of k (run c g after)) (passed c k g after) (finished c k g after)
  pub goes_out : Each c (GoesOut c k) g after

-- an acknowledged number of the loom's goes out as it came, or lowered to what was passed on without a gap; low rises with it, up to the end of the text;
-- the bytes of the other direction go out as they came
pub record Acknowledged (c : Config) (k : Key) (g : Gate) (e : Event) (p : Packet) : Type 0 where
  pub out : Bytes
  pub goes : answer c g e ≡ Out Outside out
  pub payload : (packet out).payload ≡ p.payload
  pub lowered : (i : ℕ) → acked_at (g.connection k) p ≡ At i →
      (acked_at (g.connection k) (packet out) ≡ At (min i (ack_limit (stream_of k g)))) ×
      ((stream_of k (next c g e)).low ≡ max (stream_of k g).low (min i (length (stream_of k g).text)))
  pub below : (n : ℕ) → acked_at (g.connection k) p ≡ Below n → (out ≡ p.bytes) × ((stream_of k (next c g e)).low ≡ (stream_of k g).low)

-- nothing else moves low
pub record Acknowledges (c : Config) (k : Key) (g : Gate) (e : Event) : Type 0 where
  pub acked : (p : Packet) → ack_of k e ≡ Some p → (stream_of k g).shut ≡ false → Acknowledged c k g e p
  pub stays : ack_of k e ≡ None → (stream_of k (next c g e)).low ≡ (stream_of k g).low

-- the event is a packet of the stream, or of another
abbrev pub OfStream : Key → Event → Type 0
OfStream k (Ticks n) = ⊥
OfStream k (Comes side p) = same_key k (key_from side (packet p)) ≡ true

abbrev pub OfOther : Key → Event → Type 0
OfOther k (Ticks n) = ⊥
OfOther k (Comes side p) = same_key k (key_from side (packet p)) ≡ false

-- what is held of the stream besides: the ticks left start anew with each packet that is not refused, and go by;
-- the sender's last acknowledged number that was passed on
pub record Counts (c : Config) (k : Key) (g : Gate) (e : Event) : Type 0 where
  pub active : OfStream k e → refusal_of (answer c g e) ≡ None → ((next c g e).connection k).left ≡ c.quiet
  pub aged : (n : ℕ) → e ≡ Ticks n → ((next c g e).connection k).left ≡ (g.connection k).left - n
  pub last_ack : (p : Packet) → segment_of k e ≡ Some p → refusal_of (answer c g e) ≡ None →
      ((next c g e).connection k).last_ack ≡ cond p.ack p.acknowledged (g.connection k).last_ack
  pub no_ack : segment_of k e ≡ None → ((next c g e).connection k).last_ack ≡ (g.connection k).last_ack
  pub refused : (n : ℕ) → refusal_of (answer c g e) ≡ Some n → ((next c g e).connection k).left ≡ (g.connection k).left
  -- the numbers with which the stream began stay: a place has one number for ever
  pub numbers : (((next c g e).connection k).first ≡ (g.connection k).first) × (((next c g e).connection k).opening ≡ (g.connection k).opening)

pub record Kept (c : Config) (k : Key) (g : Gate) (after : List Event) : Type 0 where
  -- the stream is what all that came to it makes of a blank one
  pub is_run : stream_of k (run c g after) ≡ steps.run c.width c.words blank (arrivals c k g after)
  -- all that went out to the loom says one thing of each place; whatever a machine gives its program is a first part of the text, and no word
  pub one_text : OneText c.words (stream_of k (run c g after)).text (passed c k g after) (finished c k g after)
  -- no word stands in the text; it is all that is known without a gap
  pub sound : Sound c.width c.words (stream_of k (run c g after))
  -- the stream is shut only for a segment with which the text would have got a word
  pub shuts : (stream_of k (run c g after)).shut ≡ true → Sometime c (WordCame c k (stream_of k (run c g after)).text) g after
  -- what of each segment goes out, whoever sends it
  pub passed_on : Each c (PassedOn c k) g after
  -- what the loom acknowledges
  pub acknowledges : Each c (Acknowledges c k) g after
  pub counts : Each c (Counts c k) g after
  -- nothing is lost of what an honest sender says
  pub honest : (source : Source) → Honest c k source g after → Unharmed c k source g after

-- The promise for one event

-- a packet is no longer than a length of 16 bits can say
abbrev pub Short : Event → Type 0
Short (Ticks n) = Unit {0}
Short (Comes side p) = length p < 65536

-- a packet is as it came
abbrev pub AsCame : Event → Bytes → Type 0
AsCame (Ticks n) out = ⊥
AsCame (Comes side p) out = out ≡ p

-- of a sender's packet the acknowledged number is as it came, and its marks, but that FIN may be taken off, and its number where neither a byte nor FIN is left;
-- of a loom's the number and the marks, and its bytes, unless it is a reset
abbrev pub KeepsOwn : Side → Bytes → Bytes → Type 0
KeepsOwn Outside p out =
    ((packet out).acknowledged % 4294967296 ≡ (packet p).acknowledged % 4294967296) ×
    (((packet out).marks ≡ (packet p).marks) ⊎ ((packet out).marks ≡ without_fin (packet p).marks)) ×
    ((packet out).payload ≡ [] → (packet out).fin ≡ false → (packet out).number % 4294967296 ≡ (packet p).number % 4294967296)
KeepsOwn Looms p out =
    ((packet out).number % 4294967296 ≡ (packet p).number % 4294967296) × ((packet out).marks ≡ (packet p).marks) ×
    (((packet out).payload ≡ (packet p).payload) ⊎ ((packet p).rst ≡ true))

-- a packet goes out to the other side than it came from, from the same end of the stream to the other, with its other header fields and options as they came
pub record Crosses (side : Side) (p : Bytes) (to : Side) (out : Bytes) : Type 0 where
  pub across : to ≡ opposite side
  pub source : (packet out).source ≡ (packet p).source
  pub source_port : (packet out).source_port ≡ (packet p).source_port
  pub destination : (packet out).destination ≡ (packet p).destination
  pub destination_port : (packet out).destination_port ≡ (packet p).destination_port
  pub header : HeaderKept p out
  pub keeps : KeepsOwn side p out

-- for ticks nothing goes out
abbrev pub CrossesBy : Event → Answer → Type 0
CrossesBy (Ticks n) a = a ≡ Quiet
CrossesBy (Comes side p) (Out to out) = Crosses side p to out
CrossesBy (Comes side p) (Refused n) = Unit {0}
CrossesBy (Comes side p) (Resets loom sender k found) = Unit {0}
CrossesBy (Comes side p) Quiet = ⊥

-- the loom's packet with which a stream begins or begins anew: SYN with an acknowledged number, which is the number of place 0;
-- and not both its numbers are those of the beginning in force
pub record Beginning (c : Config) (k : Key) (g : Gate) (e : Event) : Type 0 where
  pub bytes : Bytes
  pub came : e ≡ Comes Looms bytes
  pub reads : read bytes ≡ Ok (packet bytes)
  pub key : same_key k (key_from Looms (packet bytes)) ≡ true
  pub syn : (packet bytes).syn ≡ true
  pub ack : (packet bytes).ack ≡ true
  pub rst : (packet bytes).rst ≡ false
  pub new : among k g.keys ≡ true → same_beginning (g.connection k) (packet bytes) ≡ false
  pub not_shut : among k g.keys ≡ true → (stream_of k g).shut ≡ false
  pub fresh : find k (next c g e) ≡ Some (begun c.quiet (packet bytes).number (packet bytes).acknowledged)

-- the stream is not held, or it is not shut
abbrev pub NotShut : Key → Gate → Type 0
NotShut k g = among k g.keys ≡ true → (stream_of k g).shut ≡ false

-- a sender's SYN alone, without bytes, goes to the loom as it came
abbrev pub SynPasses : Config → Gate → Bytes → Type 0
SynPasses c g p =
    read p ≡ Ok (packet p) → syn_alone (packet p) ≡ true → (packet p).payload ≡ [] → NotShut (key_from Outside (packet p)) g →
    answer c g (Comes Outside p) ≡ Out Looms p

-- of a stream that is not held nothing else goes to the loom
abbrev pub NothingElse : Config → Gate → Bytes → Type 0
NothingElse c g p =
    among (key_from Outside (packet p)) g.keys ≡ false → (out : Bytes) → Memᴰ out (out_of (answer c g (Comes Outside p))) →
    (out ≡ p) × (syn_alone (packet p) ≡ true) × ((packet p).payload ≡ [])

-- a loom's SYN with an acknowledged number goes out as it came, and its stream then has that beginning
abbrev pub ReplyPasses : Config → Gate → Bytes → Type 0
ReplyPasses c g p =
    read p ≡ Ok (packet p) → (packet p).syn ≡ true → (packet p).ack ≡ true → (packet p).rst ≡ false → NotShut (key_from Looms (packet p)) g →
    (among (key_from Looms (packet p)) g.keys ≡ true) ⊎ (length g.keys < 256) →
    (answer c g (Comes Looms p) ≡ Out Outside p) × (same_beginning ((next c g (Comes Looms p)).connection (key_from Looms (packet p))) (packet p) ≡ true)

-- a loom's other packets go out as they came where no stream of its is held, or where they acknowledge nothing; but an opening with bytes does not
abbrev pub LoomPasses : Config → Gate → Bytes → Type 0
LoomPasses c g p =
    read p ≡ Ok (packet p) → (packet p).rst ≡ false → ((packet p).syn && (packet p).ack) ≡ false → opens_with_bytes (packet p) ≡ false → NotShut (key_from Looms (packet p)) g →
    (among (key_from Looms (packet p)) g.keys ≡ false) ⊎ ((packet p).ack ≡ false) → answer c g (Comes Looms p) ≡ Out Outside p

-- a reset of the sender's goes to the loom without its bytes; one of the loom's goes out without its bytes, and its stream is forgotten
abbrev pub SenderResets : Config → Gate → Bytes → Type 0
SenderResets c g p =
    read p ≡ Ok (packet p) → (packet p).rst ≡ true → (packet p).syn ≡ false → among (key_from Outside (packet p)) g.keys ≡ true →
    (stream_of (key_from Outside (packet p)) g).shut ≡ false →
    (out : Bytes) × (answer c g (Comes Outside p) ≡ Out Looms out) × ((packet out).payload ≡ []) × ((packet out).marks ≡ without_fin (packet p).marks)

abbrev pub LoomResets : Config → Gate → Bytes → Type 0
LoomResets c g p =
    read p ≡ Ok (packet p) → (packet p).rst ≡ true → NotShut (key_from Looms (packet p)) g →
    ((out : Bytes) × (answer c g (Comes Looms p) ≡ Out Outside out) × ((packet out).payload ≡ []) × ((packet out).marks ≡ (packet p).marks)) ×
    (among (key_from Looms (packet p)) (next c g (Comes Looms p)).keys ≡ false)

-- a stream ends by a reset of its loom, or after as many ticks as it had left
pub data Ending (k : Key) (g : Gate) : Event → Type 0 where
  by_reset : (p : Bytes) → read p ≡ Ok (packet p) → same_key k (key_from Looms (packet p)) ≡ true → (packet p).rst ≡ true → Ending k g (Comes Looms p)
  by_quiet : (n : ℕ) → (g.connection k).left ≤ n → Ending k g (Ticks n)

-- a word shuts a stream that is held, and resets go to its loom and to its sender
pub record ShutForWord (c : Config) (g : Gate) (e : Event) : Type 0 where
  pub key : Key
  pub segment : Packet
  pub came : segment_of key e ≡ Some segment
  pub held : among key g.keys ≡ true
  pub found : Found
  pub is : outcome c.width c.words (stream_of key g) (segment_at (g.connection key) segment) ≡ Word found
  pub state : next c g e ≡ put key (closed (g.connection key)) g
  pub loom : Bytes
  pub sender : Bytes
  pub resets : answer c g e ≡ Resets loom sender key found
  pub to_loom : IsReset key.sender key.sender_port key.loom key.loom_port (number_of (g.connection key).first (length (stream_of key g).text)) loom
  pub to_sender : IsReset key.loom key.loom_port key.sender key.sender_port (g.connection key).last_ack sender

pub record Handled (c : Config) (g : Gate) (e : Event) : Type 0 where
  -- a refused packet changes nothing, and nothing goes out
  pub refused : (n : ℕ) → refusal_of (answer c g e) ≡ Some n → (n ≢ 10) → (next c g e ≡ g) × (out_of (answer c g e) ≡ [])
  -- but for number 10
  pub word : refusal_of (answer c g e) ≡ Some 10 → ShutForWord c g e
  -- a stream begins and ends only so
  pub begins : (k : Key) → Begins c k g e → Beginning c k g e
  pub ends : (k : Key) → among k g.keys ≡ true → among k (next c g e).keys ≡ false → Ending k g e
  -- a packet of one stream leaves every other as it was
  pub apart : (k : Key) → OfOther k e → find k (next c g e) ≡ find k g
  -- and what is done with it depends on its own stream alone, but for whether there is room for another
  pub alone : (k : Key) → OfStream k e → (h : Gate) → find k h ≡ find k g → full h ≡ full g →
      (answer c h e ≡ answer c g e) × (find k (next c h e) ≡ find k (next c g e))
  -- ticks go by for each stream, whatever the others are
  pub ticks : (k : Key) (n : ℕ) → e ≡ Ticks n → find k (next c g e) ≡ elapsed n (find k g)
  -- nothing of a stream that is shut goes out to either side, and nothing but ticks touches it
  pub silent : (k : Key) → OfStream k e → among k g.keys ≡ true → (stream_of k g).shut ≡ true → (next c g e ≡ g) × (out_of (answer c g e) ≡ [])
  -- what goes out goes to the other side, with what is not the gate's to change
  pub crosses : CrossesBy e (answer c g e)
  -- what goes out is a right packet
  pub reads : Short e → (out : Bytes) → Memᴰ out (out_of (answer c g e)) → read out ≡ Ok (packet out)
  -- it is as it came, or its sums are those worked out afresh
  pub sums : (out : Bytes) → Memᴰ out (out_of (answer c g e)) → AsCame e out ⊎ Fresh out

-- each key stands once in the list
abbrev pub Distinct : List Key → Type 0
Distinct [] = Unit {0}
Distinct (k ∷ ks) = (among k ks ≡ false) × Distinct ks

-- For every run of events, each beginning of a stream in it, and all that follows up to the stream's next beginning or end; and for each event.
pub record PromiseFor (c : Config) : Type 0 where
  pub streams : (before : List Event) (b : Event) (after : List Event) (k : Key) → Begins c k (run c empty before) b →
      Stays c k (next c (run c empty before) b) after → Kept c k (next c (run c empty before) b) after
  pub packets : (before : List Event) (e : Event) → Handled c (run c empty before) e
  -- openings, resets and what concerns no stream pass
  pub syns : (before : List Event) (p : Bytes) → SynPasses c (run c empty before) p
  pub unbegun : (before : List Event) (p : Bytes) → NothingElse c (run c empty before) p
  pub replies : (before : List Event) (p : Bytes) → ReplyPasses c (run c empty before) p
  pub others : (before : List Event) (p : Bytes) → LoomPasses c (run c empty before) p
  pub sender_resets : (before : List Event) (p : Bytes) → SenderResets c (run c empty before) p
  pub loom_resets : (before : List Event) (p : Bytes) → LoomResets c (run c empty before) p
  -- at most 256 streams are held, each once
  pub few : (before : List Event) → length (run c empty before).keys ≤ 256
  pub distinct : (before : List Event) → Distinct (run c empty before).keys

abbrev pub Promise : Type 0
Promise = (c : Config) → Fit c → PromiseFor c
