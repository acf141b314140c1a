-- How a sender's segment goes on. Assumes nothing.
use Rattle.std.specs.Prelude.{ℕ, ◌+◌, ◌*◌, ◌/◌, ◌≤◌, cond, is_some, Some, None, Ok, Err, Option, Result, nat_lt}
use Rattle.std.specs.Option.{option_or}
use Rattle.packet.specs.declared.edit.Edit.{Edit}
use Rattle.packet.specs.declared.segment.Segment.{Segment}
use Rattle.sequence.specs.Places.{number_of}
use Rattle.stream.specs.declared.answer.Passed.{Passed}
use Rattle.filter.specs.declared.dropped.Refusal.{Refusal}
use Rattle.filter.specs.declared.dropped.Refusal.TheVariants.{Empty}

-- the number of a place, or the one that came
abbrev pub number_at : ℕ → ℕ → Option ℕ → ℕ
number_at first came (Some i) = number_of first i
number_at first came None = came

-- a part of the payload, which begins at `start` in a packet of `len` bytes
abbrev pub Inside : ℕ → ℕ → Option Passed → Type 0
Inside start len (Some p) = (p.part.start ≤ p.part.end) × (start + p.part.end ≤ len)
Inside start len None = start ≤ len

-- the place of the first byte that is passed, if one is
abbrev pub first_byte : Passed → Option ℕ
first_byte p = cond (nat_lt p.part.start p.part.end) (Some p.part.place) None

-- what a segment's packet is to hold, by what is passed of the segment
abbrev pub edit_left : ℕ → Segment → Option Passed → Result Edit Refusal
edit_left first s (Some p) = Ok (record {
  number = number_at first s.number (option_or (first_byte p) p.fin);
  acknowledged = s.acknowledged;
  marks = cond (is_some p.fin) s.marks.raw (s.marks.raw / 2 * 2);
  start = s.payload + p.part.start;
  end = s.payload + p.part.end;
})
edit_left first s None = cond s.marks.ack
    (Ok (record { number = s.number; acknowledged = s.acknowledged; marks = s.marks.raw / 2 * 2; start = s.payload; end = s.payload }))
    (Err Empty)
