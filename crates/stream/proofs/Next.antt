-- What is done with what comes next to a stream.
-- Assumes nothing.
use Rattle.std.proofs.Common.{◌≡◌, ℕ, ◌+◌, ◌-◌, ◌≤◌, true, false, cond, ◌&&◌, eqb, ◌⊎◌, List, [], ◌∷◌, ◌++◌, length, is_some, Some, None, Option, sym, refl, ap, ◌∙◌, subst, ap₂, inl, inr, ⊎_elim, arith}
use mathlib.Core.List.Memᴰ
use mathlib.Core.List.{Memᴰ}
use Rattle.std.proofs.lemmas.List.{append-nil}
use Rattle.std.proofs.lemmas.Bool.{both_ways, cond_both, cond-true, cond-false, and_from, le-leb, lt-ltb, eq-eqb, ne_eqb}
use Rattle.std.specs.Option.{option_or, unwrap_or}
use Rattle.automaton.specs.Text.{Text}
use Rattle.automaton.specs.Look.{look}
use Rattle.automaton.proofs.LookLaws.{look_law}
use Rattle.sequence.specs.declared.Place.{Place}
use Rattle.sequence.specs.declared.Place.TheVariants.{Below, At}
use Rattle.window.specs.Known.{Piece, byte_of, learn, overlay, onwards}
use Rattle.window.proofs.PieceLaws.{none-some, head_from, from_nil, learn_keeps, learn_from, or_either, overlay_at, overlay_from, known_none, cut_inside, inside-cut, cut_again_lem}
use Rattle.stream.specs.Stream.{Stream, up_to, window_end, inner, next_known, new_text, none_elsewhere, fin_fits, kept_fin, acknowledged_to}
use Rattle.stream.specs.Steps.{Segment, Arrival, Arrives, Acked, piece_of, fin_at, fin_left, piece_left, Outcome, Passed, Empty, Word, Closed, on_look, outcome, after, step, piece_in, fin_in, pieces_of, fins_of, passed_by, fins_by}
use Rattle.stream.specs.Promise.{FirstPart, Sound, Inner, Came, FinFits, PassedOn, WordCame, Next}
use Rattle.stream.proofs.Outcomes.{Done, closed, word, empty, passes, done}
use Rattle.stream.proofs.Sound.{next_text_known, left_at, left_fits}

-- pieces and FINs that go out

pub in_piece : (t : Text) (p q : Piece) → Memᴰ q (piece_in t p) → (q ≡ p) × (t ≡ [] → ⊥)
in_piece [] p q m = absurd (Memᴰ.not-nil m)
in_piece (b ∷ bs) p q m = (Memᴰ.eq_of_singleton m, λ e. omega (arith, ap length e))

piece_in_lem : (t : Text) (p : Piece) → (t ≡ [] → ⊥) → Memᴰ p (piece_in t p)
piece_in_lem [] p h = absurd (h refl)
piece_in_lem (b ∷ bs) p h = Memᴰ.head refl

in_fin : (x : Option ℕ) (f : ℕ) → Memᴰ f (fin_in x) → x ≡ Some f
in_fin None f m = absurd (Memᴰ.not-nil m)
in_fin (Some h) f m = ap Some (sym (Memᴰ.eq_of_singleton m))

one_piece : (o : Outcome) → length (pieces_of o) ≤ 1
one_piece (Passed p fin) = go p.bytes
  where
    go : (t : Text) → length (piece_in t p) ≤ 1
    go [] = omega arith
    go (b ∷ bs) = omega arith
one_piece Empty = omega arith
one_piece (Word found) = omega arith
one_piece Closed = omega arith

some_byte : (o : Outcome) (q : Piece) → Memᴰ q (pieces_of o) → (j : ℕ) × (d : ℕ) × (byte_of q j ≡ Some d)
some_byte (Passed p fin) q m = let i = in_piece p.bytes p q m in rw i.0 (go p.bytes refl i.1)
  where
    go : (t : Text) → p.bytes ≡ t → (p.bytes ≡ [] → ⊥) → (j : ℕ) × (d : ℕ) × (byte_of p j ≡ Some d)
    go [] e h = absurd (h e)
    go (b ∷ bs) e h = (p.at, b, subst (λ (t : Text). byte_of (record { at = p.at; bytes = t }) p.at ≡ Some b) (sym e) (head_from p.at b bs))
some_byte Empty q m = absurd (Memᴰ.not-nil m)
some_byte (Word found) q m = absurd (Memᴰ.not-nil m)
some_byte Closed q m = absurd (Memᴰ.not-nil m)

module _ (width : ℕ) (words : List Text) (s : Stream) (a : Segment) where
  abbrev top : ℕ
  top = up_to s.fin (window_end width s)

  abbrev bytes : Text
  bytes = (inner width s (piece_of a)).bytes

  abbrev first : ℕ
  first = (inner width s (piece_of a)).at

  -- each byte inside is left, at its place, and nothing else
  left_has : (j b : ℕ) → byte_of (piece_of a) j ≡ Some b → Inner width s j → byte_of (piece_left width s a) j ≡ Some (unwrap_or (s.known j) b)
  left_has j b e i =
      overlay_at s.known first bytes j b (inside-cut s.low top (piece_of a) j b (record { above = i.above; below = i.below; there = e }))

  left_came : (j d : ℕ) → byte_of (piece_left width s a) j ≡ Some d → Came width s a j d
  left_came j d e =
      let r = overlay_from s.known first bytes j d e in
      let i = cut_inside s.low top (piece_of a) j r.0 r.1 in
      record { byte = r.0; there = i.there; within = record { above = i.above; below = i.below }; known = r.2 }

  left_some : (j d : ℕ) → byte_of (piece_left width s a) j ≡ Some d → (piece_left width s a).bytes ≡ [] → ⊥
  left_some j d e none = from_nil first j d (subst (λ (t : Text). byte_of (record { at = first; bytes = t }) j ≡ Some d) none e)

  -- a FIN is kept where it may stand
  fits_left : (f : ℕ) → FinFits width s a f → fin_left width s a ≡ Some f
  fits_left f h =
      ap (kept_fin width s (next_known width s (piece_of a))) h.there ∙
      cond-true (fin_fits width s (next_known width s (piece_of a)) f) (Some f) None
      (and_from _ _ (le-leb s.low f h.above) (and_from _ _ (lt-ltb f (window_end width s) h.below)
      (and_from _ _ (none_elsewhere_lem s.fin h.no_other) (known_none (s.low + width - f) f (next_known width s (piece_of a)) h.last))))
    where
      none_elsewhere_lem : (x : Option ℕ) → ((g : ℕ) → x ≡ Some g → g ≡ f) → none_elsewhere x f ≡ true
      none_elsewhere_lem None n = refl
      none_elsewhere_lem (Some g) n = eq-eqb g f (n g refl)

  done_all : (o : Outcome) → Done width words s a o → (after width s a o).shut ≡ false → (j b : ℕ) → byte_of (piece_of a) j ≡ Some b → Inner width s j →
      (q : Piece) × Memᴰ q (pieces_of o) × (byte_of q j ≡ Some (unwrap_or (s.known j) b))
  done_all _ (closed shut) up j b e i = absurd (both_ways _ up shut)
  done_all _ (word u found l) up j b e i = absurd (both_ways _ up refl)
  done_all _ (empty u l none nofin) up j b e i = absurd (left_some j _ (left_has j b e i) none)
  done_all _ (passes u l) up j b e i =
      (piece_left width s a, piece_in_lem (piece_left width s a).bytes (piece_left width s a) (left_some j _ (left_has j b e i)), left_has j b e i)

  done_only : (o : Outcome) → Done width words s a o → (q : Piece) → Memᴰ q (pieces_of o) → (j d : ℕ) → byte_of q j ≡ Some d → Came width s a j d
  done_only _ (closed shut) q m = absurd (Memᴰ.not-nil m)
  done_only _ (word u found l) q m = absurd (Memᴰ.not-nil m)
  done_only _ (empty u l none nofin) q m = absurd (Memᴰ.not-nil m)
  done_only _ (passes u l) q m = λ j d e.
      left_came j d (subst (λ (x : Piece). byte_of x j ≡ Some d) (in_piece (piece_left width s a).bytes (piece_left width s a) q m).0 e)

  done_fin : (o : Outcome) → Done width words s a o → (after width s a o).shut ≡ false → (f : ℕ) → FinFits width s a f → Memᴰ f (fins_of o)
  done_fin _ (closed shut) up f h = absurd (both_ways _ up shut)
  done_fin _ (word u found l) up f h = absurd (both_ways _ up refl)
  done_fin _ (empty u l none nofin) up f h = absurd (none-some nofin (fits_left f h))
  done_fin _ (passes u l) up f h = rw (fits_left f h) (Memᴰ.head refl)

  -- the FIN that goes out is the one that is left
  pub done_fins : (o : Outcome) → Done width words s a o → (f : ℕ) → Memᴰ f (fins_of o) → fin_left width s a ≡ Some f
  done_fins _ (closed shut) f m = absurd (Memᴰ.not-nil m)
  done_fins _ (word u found l) f m = absurd (Memᴰ.not-nil m)
  done_fins _ (empty u l none nofin) f m = absurd (Memᴰ.not-nil m)
  done_fins _ (passes u l) f m = in_fin (fin_left width s a) f m

  module _ (sound : Sound width words s) where
    passed_on_lem : PassedOn width s a (step width words s (Arrives a)).shut (passed_by width words s (Arrives a)) (fins_by width words s (Arrives a))
    passed_on_lem =
        record {
          one = one_piece (outcome width words s a);
          some = some_byte (outcome width words s a);
          all = done_all (outcome width words s a) (done width words s a);
          only = done_only (outcome width words s a) (done width words s a);
          fin = done_fin (outcome width words s a) (done width words s a);
          fin_only = λ f m. left_fits width words s sound a f (done_fins (outcome width words s a) (done width words s a) f m);
        }

    word_came : s.shut ≡ false → (o : Outcome) → outcome width words s a ≡ o → Done width words s a o → (after width s a o).shut ≡ true → WordCame width words s a
    word_came up _ is (closed shut) h = absurd (both_ways _ up shut)
    word_came up _ is (word u found l) h =
        record {
          more = new_text width s (piece_of a);
          bytes = λ j b e. learn_from (inner width s (piece_of a)) s.known j b (next_text_known width words s sound (piece_of a) j b e);
          word = sym (look_law.tells words s.text (new_text width s (piece_of a)) sound.clean) ∙ ap is_some l;
          found = found;
          first = look_law.first words s.text (new_text width s (piece_of a)) found sound.clean l;
          is = is;
        }
    word_came up _ is (empty u l none nofin) h = absurd (both_ways _ up h)
    word_came up _ is (passes u l) h = absurd (both_ways _ refl h)

    fin_stays : (o : Outcome) → Done width words s a o → (f : ℕ) → s.fin ≡ Some f → (after width s a o).fin ≡ Some f
    fin_stays _ (closed shut) f e = e
    fin_stays _ (word u found l) f e = e
    fin_stays _ (empty u l none nofin) f e = e
    fin_stays _ (passes u l) f e = go (fin_left width s a) refl
      where
        go : (x : Option ℕ) → fin_left width s a ≡ x → option_or x s.fin ≡ Some f
        go None h = e
        go (Some g) h = ap Some (sym ((left_fits width words s sound a g h).no_other f e))

  after_keeps : (o : Outcome) (j b : ℕ) → s.known j ≡ Some b → (after width s a o).known j ≡ Some b
  after_keeps (Passed p fin) j b e = learn_keeps (inner width s (piece_of a)) s.known j b e
  after_keeps Empty j b e = e
  after_keeps (Word found) j b e = e
  after_keeps Closed j b e = e

  after_learns : (o : Outcome) (j b : ℕ) → (after width s a o).known j ≡ Some b → (s.known j ≡ Some b) ⊎ (byte_of (inner width s (piece_of a)) j ≡ Some b)
  after_learns (Passed p fin) j b e = learn_from (inner width s (piece_of a)) s.known j b e
  after_learns Empty j b e = inl e
  after_learns (Word found) j b e = inl e
  after_learns Closed j b e = inl e

  done_learns_fin : (o : Outcome) → Done width words s a o → (f : ℕ) → (after width s a o).fin ≡ Some f → (s.fin ≡ Some f) ⊎ (fin_at a ≡ Some f)
  done_learns_fin _ (closed shut) f e = inl e
  done_learns_fin _ (word u found l) f e = inl e
  done_learns_fin _ (empty u l none nofin) f e = inl e
  done_learns_fin _ (passes u l) f e = ⊎_elim (λ new. inr (left_at width s a f new)) inl (or_either (fin_left width s a) s.fin f e)

  after_grows : (o : Outcome) → FirstPart s.text (after width s a o).text
  after_grows (Passed p fin) = (new_text width s (piece_of a), refl)
  after_grows Empty = ([], sym (append-nil s.text))
  after_grows (Word found) = ([], sym (append-nil s.text))
  after_grows Closed = ([], sym (append-nil s.text))

  after_low : (o : Outcome) → (after width s a o).low ≡ s.low
  after_low (Passed p fin) = refl
  after_low Empty = refl
  after_low (Word found) = refl
  after_low Closed = refl

-- all depends on the part inside and on where the FIN stands
module _ (width : ℕ) (words : List Text) (s : Stream) where
  abbrev outcome_of : Piece → Option ℕ → Outcome
  outcome_of i f =
      cond s.shut Closed (on_look (record { at = i.at; bytes = overlay s.known i.at i.bytes }) (kept_fin width s (learn i s.known) f)
      (look words s.text (onwards width (length s.text) (learn i s.known))))

  abbrev after_of : Piece → Outcome → Stream
  after_of i (Passed p fin) = record { low = s.low; known = learn i s.known; text = s.text ++ onwards width (length s.text) (learn i s.known); fin = option_or fin s.fin; shut = false }
  after_of i Empty = s
  after_of i (Word found) = record { low = s.low; known = s.known; text = s.text; fin = s.fin; shut = true }
  after_of i Closed = s

  after_of_lem : (a : Segment) (o : Outcome) → after width s a o ≡ after_of (inner width s (piece_of a)) o
  after_of_lem a (Passed p fin) = refl
  after_of_lem a Empty = refl
  after_of_lem a (Word found) = refl
  after_of_lem a Closed = refl

  alike : (a b : Segment) → inner width s (piece_of a) ≡ inner width s (piece_of b) → fin_at a ≡ fin_at b →
      (outcome width words s a ≡ outcome width words s b) × (step width words s (Arrives a) ≡ step width words s (Arrives b))
  alike a b e f =
      let same : outcome width words s a ≡ outcome width words s b = ap₂ outcome_of e f in
      (same, after_of_lem a (outcome width words s a) ∙ (ap₂ after_of e same ∙ sym (after_of_lem b (outcome width words s b))))

  -- an acknowledged place
  pub acked_cases : (P : Stream → Type 0) (i : Place) → P s → ((j : ℕ) → P (acknowledged_to (At j) s)) → P (step width words s (Acked i))
  acked_cases P (Below n) same moved = cond_both s.shut s s P (λ _. same) (λ _. same)
  acked_cases P (At j) same moved = cond_both s.shut s (acknowledged_to (At j) s) P (λ _. same) (λ _. moved j)

  keeps : (a : Arrival) (j b : ℕ) → s.known j ≡ Some b → (step width words s a).known j ≡ Some b
  keeps (Arrives a) j b e = after_keeps width words s a (outcome width words s a) j b e
  keeps (Acked i) j b e = acked_cases (λ (t : Stream). t.known j ≡ Some b) i e (λ _. e)

  grows : (a : Arrival) → FirstPart s.text (step width words s a).text
  grows (Arrives a) = after_grows width words s a (outcome width words s a)
  grows (Acked i) = acked_cases (λ (t : Stream). FirstPart s.text t.text) i ([], sym (append-nil s.text)) (λ _. ([], sym (append-nil s.text)))

  pub stays : s.shut ≡ true → (a : Arrival) → (step width words s a ≡ s) × (passed_by width words s a ≡ []) × (fins_by width words s a ≡ [])
  stays shut (Arrives a) =
      let none : outcome width words s a ≡ Closed = cond-true s.shut Closed _ shut in
      (ap (after width s a) none, ap pieces_of none, ap fins_of none)
  stays shut (Acked i) = (cond-true s.shut s (acknowledged_to i s) shut, refl, refl)

  pub next : Sound width words s → Next width words s
  next sound =
      record {
        passed_on = λ a. passed_on_lem width words s a sound;
        alike = alike;
        cut_again = cut_again_lem s.low (up_to s.fin (window_end width s));
        shuts = λ a up h. word_came width words s a sound up (outcome width words s a) refl (done width words s a) h;
        stays = stays;
        learns = λ a. after_learns width words s a (outcome width words s a);
        learns_fin = λ a. done_learns_fin width words s a (outcome width words s a) (done width words s a);
        keeps = keeps;
        keeps_fin = keeps_fin;
        grows = grows;
        low = λ a. after_low width words s a (outcome width words s a);
        acked = λ i up. cond-false s.shut s (acknowledged_to (At i) s) up;
        acked_below = λ n. cond_both s.shut s s (λ t. t ≡ s) (λ _. refl) (λ _. refl);
        limit = λ none. go s.fin refl none;
        limit_fin = λ e. rw e (cond-true (eqb (length s.text) (length s.text)) _ _ (eq-eqb (length s.text) (length s.text) refl));
      }
    where
      go : (x : Option ℕ) → s.fin ≡ x → (s.fin ≡ Some (length s.text) → ⊥) → cond (is_some x && none_elsewhere x (length s.text)) (length s.text + 1) (length s.text) ≡ length s.text
      go None e none = refl
      go (Some f) e none = cond-false (eqb f (length s.text)) _ _ (ne_eqb f (length s.text) (λ is. none (e ∙ ap Some is)))

      keeps_fin : (a : Arrival) (f : ℕ) → s.fin ≡ Some f → (step width words s a).fin ≡ Some f
      keeps_fin (Arrives a) f e = fin_stays width words s a sound (outcome width words s a) (done width words s a) f e
      keeps_fin (Acked i) f e = acked_cases (λ (t : Stream). t.fin ≡ Some f) i e (λ _. e)
