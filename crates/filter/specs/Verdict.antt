-- What comes to the gate, what is done with it, and what goes out. Assumes nothing.
use Rattle.std.specs.Prelude.{ℕ, List, [], ◌∷◌, Some, None, Option}
use Rattle.automaton.specs.Look.{Found}
use Rattle.packet.specs.Bytes.{Bytes}
use Rattle.filter.specs.Config.{Key}
use Rattle.filter.specs.declared.side.Side.{Side}
use Rattle.filter.specs.declared.side.Side.TheVariants.{Outside, Looms}
use Rattle.filter.specs.Gate.{Connection, Gate, put, remove, elapse}

pub data Event : Type 0 where
  Comes : Side → Bytes → Event
  Ticks : ℕ → Event

-- what is done with an event
-- Refuse: the packet is dropped, by this number. Forward: it goes out to a side, and no stream is touched.
-- Update: it goes out, and of its stream this is held then. Begin: it goes to the outside, and its stream begins or begins anew.
-- End: it goes to the outside, and its stream is forgotten. Shut: it is dropped, its stream is shut, and resets go to the loom and to the sender.
pub data Verdict : Type 0 where
  Refuse : ℕ → Verdict
  Forward : Side → Bytes → Verdict
  Update : Key → Connection → Side → Bytes → Verdict
  Begin : Key → Connection → Bytes → Verdict
  End : Key → Bytes → Verdict
  Shut : Key → Connection → Bytes → Bytes → Found → Verdict
  Elapse : ℕ → Verdict

abbrev pub apply : Verdict → Gate → Gate
apply (Refuse n) g = g
apply (Forward side p) g = g
apply (Update k s side p) g = put k s g
apply (Begin k s p) g = put k s g
apply (End k p) g = remove k g
apply (Shut k s loom sender found) g = put k s g
apply (Elapse n) g = elapse n g

-- what becomes of an event: a packet goes out to a side, or it is refused; for a word two resets go out as well, and the record gets a line
pub data Answer : Type 0 where
  Out : Side → Bytes → Answer
  Refused : ℕ → Answer
  Resets : Bytes → Bytes → Key → Found → Answer
  Quiet : Answer

abbrev pub answer_of : Verdict → Answer
answer_of (Refuse n) = Refused n
answer_of (Forward side p) = Out side p
answer_of (Update k s side p) = Out side p
answer_of (Begin k s p) = Out Outside p
answer_of (End k p) = Out Outside p
answer_of (Shut k s loom sender found) = Resets loom sender k found
answer_of (Elapse n) = Quiet

-- the number by which a packet is refused
abbrev pub refusal_of : Answer → Option ℕ
refusal_of (Out side p) = None
refusal_of (Refused n) = Some n
refusal_of (Resets loom sender k found) = Some 10
refusal_of Quiet = None

-- the packets that go out
abbrev pub out_of : Answer → List Bytes
out_of (Out side p) = p ∷ []
out_of (Refused n) = []
out_of (Resets loom sender k found) = loom ∷ (sender ∷ [])
out_of Quiet = []

-- the one that goes out to the looms
abbrev pub to_looms : Answer → Option Bytes
to_looms (Out Outside p) = None
to_looms (Out Looms p) = Some p
to_looms (Refused n) = None
to_looms (Resets loom sender k found) = Some loom
to_looms Quiet = None
