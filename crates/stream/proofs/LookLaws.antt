-- Looking at the new bytes of a text, part after part.
-- Assumes nothing.
use Rattle.std.proofs.Common.{◌≡◌, ℕ, zero, suc, ◌+◌, ◌-◌, ◌<◌, ◌≤◌, ◌⊎◌, List, [], ◌∷◌, ◌++◌, length, drop, Some, None, Ok, Err, Option, Result, sym, refl, ap, ◌∙◌, ⊎_elim, append_assoc, arith}
use Rattle.std.proofs.lemmas.List.{append-nil, take-append-drop}
use Rattle.automaton.specs.Look.{look}
use Rattle.automaton.specs.States.{run}
use Rattle.automaton.specs.Text.{Text}
use Rattle.stream.specs.declared.look.Reached.{Reached}
use Rattle.stream.specs.declared.answer.WordAt.{WordAt}
use Rattle.automaton.proofs.JudgedLaws.{look-append}
use Rattle.automaton.proofs.Looks.{look_on}
use Rattle.window.specs.Known.{Known, learn, on_byte, onwards, overlay, piece}
use Rattle.window.specs.Ring.{Front}
use Rattle.window.proofs.KnownLaws.{inside-above, inside_below, learn_outside, onwards_enough, onwards-learn, onwards-none}
use Rattle.stream.specs.Look.{LookOf}

pub overlay-drop : (f : Known) (i n : ℕ) (bs : List ℕ) → n ≤ length bs → overlay f (i + n) (drop n bs) ≡ drop n (overlay f i bs)
unfolding overlay
overlay-drop f i zero bs l = let e : i + 0 ≡ i = omega arith in ap (λ j. overlay f j bs) e
overlay-drop f i (suc n) [] l = absurd (omega arith)
overlay-drop f i (suc n) (b ∷ bs) l = let e : i + suc n ≡ i + 1 + n = omega arith in ap (λ j. overlay f j (drop n bs)) e ∙ overlay-drop f (i + 1) n bs (omega arith)

-- what is overlaid is a front of it, and what is overlaid behind that
pub overlay-front : (f : Known) (i : ℕ) (rest front : List ℕ) → Front f i rest front → overlay f i rest ≡ front ++ overlay f (i + length front) (drop (length front) rest)
overlay-front f i rest front fr =
    sym (take-append-drop (length front) (overlay f i rest)) ∙ ap (λ x. x ++ drop (length front) (overlay f i rest)) (sym fr.is)
    ∙ ap (λ x. front ++ x) (sym (overlay-drop f i (length front) rest fr.most))

-- a part of which some bytes were seen, and a front of its rest
pub seen_more : (f : Known) (i j : ℕ) (part seen rest front : List ℕ) → overlay f i part ≡ seen ++ overlay f j rest → Front f j rest front →
    overlay f i part ≡ (seen ++ front) ++ overlay f (j + length front) (drop (length front) rest)
seen_more f i j part seen rest front e fr =
    e ∙ ap (λ x. seen ++ x) (overlay-front f j rest front fr) ∙ sym (append_assoc seen front (overlay f (j + length front) (drop (length front) rest)))

-- bytes that were looked at without finding a word, and those behind them
pub look-more : (ws : List Text) (t xs ys : Text) (to : Reached) (r : Result Reached WordAt) → LookOf ws t xs (Ok to) → LookOf ws (t ++ xs) ys r → LookOf ws t (xs ++ ys) r
look-more ws t xs ys to (Ok u) a b = (
  look-append ws xs ys t a.0 ∙ b.0,
  b.1 ∙ ap length (append_assoc t xs ys),
  b.2 ∙ ap (run ws 0) (append_assoc t xs ys),
)
look-more ws t xs ys to (Err w) a b = (b.0, look-append ws xs ys t a.0 ∙ b.1)

-- bytes after the one that completes a word do not count
pub look-past : (ws : List Text) (t xs ys : Text) (w : WordAt) → LookOf ws t xs (Err w) → LookOf ws t (xs ++ ys) (Err w)
look-past ws t xs ys w a = (a.0, look_on ws xs ys t _ a.1)

-- no bytes
pub look-none : (ws : List Text) (t : Text) (r : Reached) → r.end ≡ length t → r.state ≡ run ws 0 t → LookOf ws t [] (Ok r)
unfolding look
look-none ws t r n e = (refl, n ∙ ap length (sym (append-nil t)), e ∙ ap (run ws 0) (sym (append-nil t)))

-- The bytes by which the text grows

pub length-onwards : (n i : ℕ) (f : Known) → length (onwards n i f) ≤ n
unfolding onwards
length-onwards zero i f = omega arith
length-onwards (suc n) i f = go (f i) (length-onwards n (i + 1) f)
  where
    go : (o : Option ℕ) → length (onwards n (i + 1) f) ≤ n → length (on_byte (onwards n (i + 1) f) o) ≤ suc n
    go None h = omega arith
    go (Some b) h = omega arith

module _ (f : Known) (low w end place : ℕ) (bs : List ℕ) (above : low ≤ end) (none : f end ≡ None) (outside : (j : ℕ) → low + w ≤ j → f j ≡ None) where
  pub grown_none : (end < place) ⊎ (place + length bs ≤ end) → onwards w end (learn (piece place bs) f) ≡ []
  grown_none h =
      onwards-none w end (learn (piece place bs) f)
      (learn_outside place bs f end (⊎_elim (λ l. inside_below place (length bs) end l) (λ l. inside-above place (length bs) end l) h) ∙ none)

  pub grown_by : place ≤ end → end < place + length bs → place + length bs ≤ low + w →
      overlay f end (drop (end - place) bs) ++ onwards w (place + length bs) f ≡ onwards w end (learn (piece place bs) f)
  grown_by a b c =
      let e : place + (end - place) ≡ end = omega arith in
      let d : overlay f end (drop (end - place) bs) ≡ drop (end - place) (overlay f place bs) =
      ap (λ i. overlay f i (drop (end - place) bs)) (sym e) ∙ overlay-drop f place (end - place) bs (omega arith) in
      let k : onwards (w - (place + length bs - end)) (place + length bs) f ≡ onwards w (place + length bs) f =
      onwards_enough (w - (place + length bs - end)) w (place + length bs) (low + w) f outside (omega arith) (omega arith) in
      ap (λ x. x ++ onwards w (place + length bs) f) d ∙ ap (λ x. drop (end - place) (overlay f place bs) ++ x) (sym k)
      ∙ sym (onwards-learn w place end bs f a (omega arith) (omega arith))
