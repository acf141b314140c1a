-- What is left of a segment, read from the bytes that go out, is what the stream passes on.
-- Assumes nothing.
use Rattle.std.proofs.Common.{◌≡◌, ℕ, ◌+◌, ◌-◌, ◌%◌, ◌<◌, ◌≤◌, true, eqb, leb, List, [], ◌∷◌, length, drop, Some, None, Ok, Option, refl, ap, ◌∙◌, ap₂, arith}
use Rattle.std.proofs.lemmas.List.{length-take, length-drop}
use Rattle.std.proofs.lemmas.Bool.{cond_both, cond-true, cond-false}
use Rattle.automaton.specs.Text.{Text}
use Rattle.packet.specs.Bytes.{Bytes}
use Rattle.packet.specs.Packet.{packet, read}
use Rattle.packet.specs.Laws.{ReadsAs, Sent, rewritten}
use Rattle.packet.proofs.WriteLaws.{sent-right}
use Rattle.sequence.specs.declared.Place.{Place}
use Rattle.sequence.specs.declared.Place.TheVariants.{Below, At}
use Rattle.sequence.specs.Places.{number_of, place_of, place_after}
use Rattle.sequence.proofs.PlaceLaws.{place_back}
use Rattle.window.specs.Known.{Piece}
use Rattle.window.proofs.KnownLaws.{length-overlay}
use Rattle.window.proofs.PieceLaws.{none-some}
use Rattle.stream.specs.Stream.{piece_at, up_to, window_end, inner}
use Rattle.stream.specs.Steps.{Segment, piece_of, fin_at, piece_left, fin_left, piece_in, fin_in}
use Rattle.stream.specs.Promise.{Sound, FinFits}
use Rattle.stream.proofs.Sound.{left_fits}
use Rattle.filter.specs.Gate.{Connection}
use Rattle.filter.specs.Decide.{segment_at, number_left, marks_left, packet_left}
use Rattle.filter.proofs.Decided.{no_fin}

up_to_least : (x : Option ℕ) (n : ℕ) → up_to x n ≤ n
up_to_least None n = omega arith
up_to_least (Some f) n = omega arith

piece_short : (at : Place) (t : Text) → length (piece_at at t).bytes ≤ length t
piece_short (At i) t = omega arith
piece_short (Below m) t = omega (arith, length-drop m t)

-- a text ends where its FIN stands
piece_end : (at : Place) (t : Text) (f : ℕ) → place_after at (length t) ≡ Some f → (piece_at at t).at + length (piece_at at t).bytes ≡ f
piece_end (At i) t f = λ e. let q : i + length t ≡ f = cc in q
piece_end (Below m) t f =
    cond_both (leb m (length t)) (Some (length t - m)) None (λ x. x ≡ Some f → 0 + length (drop m t) ≡ f)
    (λ _ e. let d : length t - m ≡ f = cc in omega (arith, length-drop m t)) (λ _ e. absurd (none-some refl e))

-- a segment whose FIN stands somewhere has the mark
pub fin_parts : (a : Segment) (f : ℕ) → fin_at a ≡ Some f → (a.fin ≡ true) × (place_after a.at (length a.bytes) ≡ Some f)
fin_parts a f =
    cond_both a.fin (place_after a.at (length a.bytes)) None (λ x. x ≡ Some f → (a.fin ≡ true) × (place_after a.at (length a.bytes) ≡ Some f))
    (λ marked e. (marked, e)) (λ _ e. absurd (none-some refl e))

module _ (width : ℕ) (small : width ≤ 65536) (s : Connection) (p : Bytes) (reads : read p ≡ Ok (packet p)) where
  abbrev seg : Segment
  seg = segment_at s (packet p)

  abbrev piece : Piece
  piece = piece_left width s.stream seg

  abbrev fin : Option ℕ
  fin = fin_left width s.stream seg

  abbrev out : Bytes
  out = packet_left s (packet p) piece.at piece.bytes fin

  pub left_reads : ReadsAs p out (number_left s (packet p) piece.at piece.bytes fin) (packet p).acknowledged (marks_left (packet p) fin) piece.bytes
  left_reads = sent-right.fields p reads _ _ _ _

  abbrev top : ℕ
  top = up_to s.stream.fin (window_end width s.stream)

  -- how long the part inside is
  part_length : length piece.bytes ≡ length (inner width s.stream (piece_of seg)).bytes
  part_length = length-overlay s.stream.known piece.at (inner width s.stream (piece_of seg)).bytes

  -- it is no longer than the payload
  pub left_sent : Sent p out
  left_sent =
      let size = length-take (top - piece.at) (drop (s.stream.low - (piece_of seg).at) (piece_of seg).bytes) in
      let rest = length-drop (s.stream.low - (piece_of seg).at) (piece_of seg).bytes in
      rewritten _ _ _ _ (omega (arith, part_length, piece_short seg.at seg.bytes))

  -- the number of a place in the window is read again
  out_place : (i : ℕ) → number_left s (packet p) piece.at piece.bytes fin ≡ number_of s.first i → s.stream.low ≤ i → i ≤ s.stream.low + width →
      place_of s.first s.stream.low (packet out).number ≡ At i
  out_place i e l u =
      let n : (packet out).number ≡ number_of s.first i = left_reads.number ∙ (ap (λ x. x % 4294967296) e ∙ omega arith) in
      ap (place_of s.first s.stream.low) n ∙ place_back s.first s.stream.low i (omega arith) (omega arith)

  first_place : (b : ℕ) (bs : Text) → piece.bytes ≡ b ∷ bs → place_of s.first s.stream.low (packet out).number ≡ At piece.at
  first_place b bs e = out_place piece.at (numbered piece.bytes e) (omega arith) within
    where
      numbered : (t : Text) → t ≡ b ∷ bs → number_left s (packet p) piece.at t fin ≡ number_of s.first piece.at
      numbered t h = rw h refl

      within : piece.at ≤ s.stream.low + width
      within =
          let most = up_to_least s.stream.fin (window_end width s.stream) in
          let size = length-take (top - piece.at) (drop (s.stream.low - (piece_of seg).at) (piece_of seg).bytes) in
          omega (arith, part_length, ap length e)

  pub left_pieces : piece_in (packet out).payload (piece_of (segment_at s (packet out))) ≡ piece_in piece.bytes piece
  left_pieces = ap (λ t. piece_in t (piece_of (segment_at s (packet out)))) left_reads.payload ∙ go piece.bytes refl
    where
      go : (t : Text) → piece.bytes ≡ t → piece_in t (piece_of (segment_at s (packet out))) ≡ piece_in t piece
      go [] e = refl
      go (b ∷ bs) e = ap (λ (x : Piece). x ∷ []) (ap₂ piece_at (first_place b bs e) left_reads.payload)

  top_above : (f : ℕ) → f < window_end width s.stream → (x : Option ℕ) → ((h : ℕ) → x ≡ Some h → h ≡ f) → f ≤ up_to x (window_end width s.stream)
  top_above f l None same = omega arith
  top_above f l (Some h) same = let e = same h refl in omega arith

  -- where a FIN is kept, the part ends at it
  part_end : (f : ℕ) → FinFits width s.stream seg f → piece.at + length piece.bytes ≡ f
  part_end f fits =
      let end = piece_end seg.at seg.bytes f (fin_parts seg f fits.there).1 in
      let high = top_above f fits.below s.stream.fin fits.no_other in
      let low = fits.above in
      let size = length-take (top - piece.at) (drop (s.stream.low - (piece_of seg).at) (piece_of seg).bytes) in
      let rest = length-drop (s.stream.low - (piece_of seg).at) (piece_of seg).bytes in
      let part = part_length in
      omega arith

  fin_stands : (f : ℕ) → fin ≡ Some f → FinFits width s.stream seg f → place_after (place_of s.first s.stream.low (packet out).number) (length (packet out).payload) ≡ Some f
  fin_stands f e fits = go piece.bytes refl
    where
      numbered : (t : Text) (x : Option ℕ) → t ≡ [] → x ≡ Some f → number_left s (packet p) piece.at t x ≡ number_of s.first f
      numbered t x a b = rw (a, b) refl

      go : (t : Text) → piece.bytes ≡ t → place_after (place_of s.first s.stream.low (packet out).number) (length (packet out).payload) ≡ Some f
      go [] n =
          let low = fits.above in
          let high = fits.below in
          ap₂ place_after (out_place f (numbered piece.bytes fin n e) (omega arith) (omega arith)) (ap length (left_reads.payload ∙ n)) ∙ ap Some (omega arith)
      go (b ∷ bs) n = ap₂ place_after (first_place b bs n) (ap length left_reads.payload) ∙ ap Some (part_end f fits)

  pub left_fins : (words : List Text) → Sound width words s.stream → fin_in (fin_at (segment_at s (packet out))) ≡ fin_in fin
  left_fins words sound = go fin refl
    where
      go : (x : Option ℕ) → fin ≡ x → fin_in (fin_at (segment_at s (packet out))) ≡ fin_in x
      go None e =
          ap fin_in (cond-false (packet out).fin _ None (ap (λ m. eqb (m % 2) 1) (left_reads.marks ∙ ap (marks_left (packet p)) e) ∙ no_fin (packet p).marks))
      go (Some f) e =
          let fits = left_fits width words s.stream sound seg f e in
          ap fin_in (cond-true (packet out).fin _ None
          (ap (λ m. eqb (m % 2) 1) (left_reads.marks ∙ ap (marks_left (packet p)) e) ∙ (fin_parts seg f fits.there).0) ∙ fin_stands f e fits)
