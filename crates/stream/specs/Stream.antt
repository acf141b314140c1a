-- One direction of a stream as the gate knows it, and what becomes of it as bytes come. Assumes nothing.
use Rattle.std.specs.Prelude.{ℕ, ◌+◌, ◌-◌, min, max, Bool, true, false, cond, ◌&&◌, [], ◌++◌, length, drop, is_some, Some, None, Option, ◌==◌, nat_le, nat_lt}
use Rattle.std.specs.Option.{option_or}
use Rattle.automaton.specs.Text.{Text}
use Rattle.sequence.specs.declared.Place.{Place}
use Rattle.sequence.specs.declared.Place.TheVariants.{Below, At}
use Rattle.window.specs.Known.{Known, Piece, cut, learn, overlay, onwards, none_known}

-- a text from a place on; its bytes below place 0 are left off
abbrev pub piece_at : Place → Text → Piece
piece_at (At i) bs = record { at = i; bytes = bs }
piece_at (Below n) bs = record { at = 0; bytes = drop n bs }

-- low: the highest place that the receiver has acknowledged, never above the end of the text;
-- known: the byte first seen at each place; text: the bytes known without a gap from place 0 on, all of them looked at;
-- fin: the place of the known FIN; shut: a word came, and nothing more is passed on
pub record Stream : Type 0 where
  pub low : ℕ
  pub known : Known
  pub text : Text
  pub fin : Option ℕ
  pub shut : Bool

-- a stream that begins
abbrev pub blank : Stream
blank = record { low = 0; known = λ j. None; text = []; fin = None; shut = false }

-- places end here: never reached in practice
abbrev pub places : ℕ
places = 9223372036854775808

-- the end of the window
abbrev pub window_end : ℕ → Stream → ℕ
window_end width s = min (s.low + width) places

abbrev pub up_to : Option ℕ → ℕ → ℕ
up_to None n = n
up_to (Some f) n = min f n

-- the part of a piece that lies in the window and before a known FIN
abbrev pub inner : ℕ → Stream → Piece → Piece
inner width s p = cut s.low (up_to s.fin (window_end width s)) p

-- what is known, and by how much the text has grown, once a piece is taken
abbrev pub next_known : ℕ → Stream → Piece → Known
next_known width s p = learn (inner width s p) s.known

abbrev pub new_text : ℕ → Stream → Piece → Text
new_text width s p = onwards width (length s.text) (next_known width s p)

-- what is passed on of a piece
abbrev pub passed_part : ℕ → Stream → Piece → Text
passed_part width s p = overlay s.known (inner width s p).at (inner width s p).bytes

abbrev pub none_elsewhere : Option ℕ → ℕ → Bool
none_elsewhere None f = true
none_elsewhere (Some g) f = g == f

-- a FIN stands where it may: in the window, no byte known at or after it, no other FIN known elsewhere
abbrev pub fin_fits : ℕ → Stream → Known → ℕ → Bool
fin_fits width s known f =
    nat_le s.low f && (nat_lt f (window_end width s) && (none_elsewhere s.fin f && none_known (s.low + width - f) f known))

-- the place of a segment's FIN, if it has one and it is kept
abbrev pub kept_fin : ℕ → Stream → Known → Option ℕ → Option ℕ
kept_fin width s known None = None
kept_fin width s known (Some f) = let fits : Bool = fin_fits width s known f in cond fits (Some f) None

-- up to where the receiver may acknowledge: the end of the text, and one more where the known FIN stands there
abbrev pub ack_limit : Stream → ℕ
ack_limit s = cond (is_some s.fin && none_elsewhere s.fin (length s.text)) (length s.text + 1) (length s.text)

abbrev pub shut_down : Stream → Stream
shut_down s = record { low = s.low; known = s.known; text = s.text; fin = s.fin; shut = true }

-- the receiver has acknowledged a place: low rises to it, but not above the end of the text
abbrev pub acknowledged_to : Place → Stream → Stream
acknowledged_to (Below n) s = s
acknowledged_to (At i) s = record {
  low = max s.low (min i (length s.text));
  known = s.known;
  text = s.text;
  fin = s.fin;
  shut = s.shut;
}

-- a piece was passed on, with the FIN that was kept of it
abbrev pub taken : ℕ → Piece → Option ℕ → Stream → Stream
taken width p fin s = record {
  low = s.low;
  known = next_known width s p;
  text = s.text ++ new_text width s p;
  fin = option_or fin s.fin;
  shut = false;
}
