-- Bytes at the places of a stream, which come in pieces, in any order and not always alike. Assumes nothing.
use Rattle.std.specs.Prelude.{ℕ, zero, suc, ◌+◌, ◌-◌, ◌<◌, ◌≤◌, max, Bool, true, cond, not, ◌&&◌, List, [], ◌∷◌, take, drop, is_some, Some, None, Option, nat_le, nat_lt}
use Rattle.std.specs.List.{slice_get}
use Rattle.std.specs.Option.{option_or, unwrap_or}

-- the bytes known so far, each at its place
abbrev pub Known : Type 0
Known = ℕ → Option ℕ

-- bytes that follow one another, the first at a place
pub record Piece : Type 0 where
  pub at : ℕ
  pub bytes : List ℕ

abbrev pub piece : ℕ → List ℕ → Piece
piece i bs = record { at = i; bytes = bs }

-- is a place one of the n places from i on
abbrev pub inside : ℕ → ℕ → ℕ → Bool
inside i n j = nat_le i j && nat_lt j (i + n)

-- the n places from i on, if there are any, lie in the window of some width from low on
pub record Within (low width i n : ℕ) : Type 0 where
  pub above : 0 < n → low ≤ i
  pub below : 0 < n → i + n ≤ low + width

-- the byte that a piece has at a place
abbrev pub byte_of : Piece → Known
byte_of p j = cond (nat_le p.at j) (slice_get p.bytes (j - p.at)) None

-- the part of a piece from low up to top
abbrev pub cut : ℕ → ℕ → Piece → Piece
cut low top p = record {
  at = max low p.at;
  bytes = take (top - max low p.at) (drop (low - p.at) p.bytes);
}

-- a place that is known keeps its byte, another one gets that of the piece
abbrev pub learn : Piece → Known → Known
learn p known j = option_or (known j) (byte_of p j)

-- bytes from place i on, with the known byte in place of what came
unfoldable pub overlay : Known → ℕ → List ℕ → List ℕ
overlay known i [] = []
overlay known i (b ∷ bs) = unwrap_or (known i) b ∷ overlay known (i + 1) bs

-- what is left of what is known once the places below low are forgotten
abbrev pub forget : ℕ → Known → Known
forget low known j = cond (nat_le low j) (known j) None

abbrev pub on_byte : List ℕ → Option ℕ → List ℕ
on_byte more None = []
on_byte more (Some b) = b ∷ more

-- the bytes known without a gap from place i on, at most n
unfoldable pub onwards : ℕ → ℕ → Known → List ℕ
onwards zero i known = []
onwards (suc n) i known =
    let more : List ℕ = onwards n (i + 1) known in
    on_byte more (known i)

-- is no byte known at the n places from i on
unfoldable pub none_known : ℕ → ℕ → Known → Bool
none_known zero i known = true
none_known (suc n) i known = not (is_some (known i)) && none_known n (i + 1) known
