-- What the gate holds: up to 256 streams. Assumes nothing.
use Rattle.std.specs.Prelude.{ℕ, ◌-◌, Bool, false, cond, not, ◌||◌, List, [], ◌∷◌, length, Some, None, Option, nat_le, nat_lt}
use Rattle.sequence.specs.Places.{number_of}
use Rattle.stream.specs.Stream.{Stream, blank, shut_down}
use Rattle.filter.specs.Config.{Key, same_key}

-- first: the sequence number of place 0; opening: the number of the loom's packet with which the stream began;
-- last_ack: the last acknowledged number of the sender's that was passed on; left: the ticks until the stream is ended;
-- stream: the sender's bytes
pub record Connection : Type 0 where
  pub first : ℕ
  pub opening : ℕ
  pub last_ack : ℕ
  pub left : ℕ
  pub stream : Stream

-- a stream that begins
abbrev pub begun : ℕ → ℕ → ℕ → Connection
begun quiet opening first = record { first = first; opening = opening; last_ack = number_of opening 1; left = quiet; stream = blank }

-- a packet was passed on: the count of quiet ticks starts anew
abbrev pub active : ℕ → Stream → Connection → Connection
active quiet stream s = record { first = s.first; opening = s.opening; last_ack = s.last_ack; left = quiet; stream = stream }

-- ticks go by
abbrev pub aged : ℕ → Connection → Connection
aged n s = record { first = s.first; opening = s.opening; last_ack = s.last_ack; left = s.left - n; stream = s.stream }

-- a word came
abbrev pub closed : Connection → Connection
closed s = record { first = s.first; opening = s.opening; last_ack = s.last_ack; left = s.left; stream = shut_down s.stream }

-- keys: the streams that are held, each once; connection: what is held of each
pub record Gate : Type 0 where
  pub keys : List Key
  pub connection : Key → Connection

unfoldable pub among : Key → List Key → Bool
among k [] = false
among k (x ∷ xs) = same_key k x || among k xs

unfoldable pub only : (Key → Bool) → List Key → List Key
only test [] = []
only test (x ∷ xs) = cond (test x) (x ∷ only test xs) (only test xs)

abbrev pub empty : Gate
empty = record { keys = []; connection = λ k. begun 0 0 0 }

abbrev pub find : Key → Gate → Option Connection
find k g = cond (among k g.keys) (Some (g.connection k)) None

-- no other stream can be held
abbrev pub full : Gate → Bool
full g = nat_le 256 (length g.keys)

abbrev pub put : Key → Connection → Gate → Gate
put k s g = record { keys = cond (among k g.keys) g.keys (k ∷ g.keys); connection = λ x. cond (same_key x k) s (g.connection x) }

abbrev pub remove : Key → Gate → Gate
remove k g = record { keys = only (λ x. not (same_key x k)) g.keys; connection = g.connection }

-- ticks go by: a stream with no more ticks left than these is ended
abbrev pub elapse : ℕ → Gate → Gate
elapse n g = record { keys = only (λ x. nat_lt n (g.connection x).left) g.keys; connection = λ x. aged n (g.connection x) }

-- what is held of a stream then
abbrev pub elapsed : ℕ → Option Connection → Option Connection
elapsed n None = None
elapsed n (Some s) = cond (nat_lt n s.left) (Some (aged n s)) None
