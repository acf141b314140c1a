use Rattle.std.proofs.Common.{◌≡◌, ℕ, ◌+◌, ◌-◌, ◌<◌, ◌≤◌, List, [], ◌++◌, length, None, Ok, Err, Result, sym, ap, ◌∙◌, subst, inl, inr, ⊎_elim, arith}
use Rattle.std.specs.List.{between}
use Rattle.std.proofs.lemmas.List.{length-append, length-drop}
use Rattle.std.proofs.lemmas.Result.{err_from_is_err_and}
use Rattle.std.proofs.lemmas.Slice.{between_to_end}
use Rattle.automaton.specs.Text.{Text}
use Rattle.window.specs.Known.{Within, learn, onwards, overlay, piece}
use Rattle.window.specs.Window.{knows, width}
use Rattle.window.specs.declared.Window.{Window}
use Rattle.stream.specs.Look.{LookOf}
use Rattle.stream.specs.declared.look.Reached.{Reached}
use Rattle.stream.specs.declared.answer.WordAt.{WordAt}
use Rattle.stream.proofs.LookLaws.{grown_by, grown_none, length-onwards, look-more, look-none, look-past}
use Rattle.stream.proofs.WindowFacts.{knows-above, width_most}
use Rattle.stream.proofs.look.look.Goals as goal

-- the two slices that are known behind a place
run_most : (w : Window) (from : ℕ) (xs ys : List ℕ) → xs ++ ys ≡ onwards (width w) from (knows w) → length xs + length ys ≤ 65536
run_most w from xs ys e = omega (arith, length-append xs ys, ap length e, length-onwards (width w) from (knows w), width_most w)

pub returns-then-place-from : goal.returns-then-place-from
returns-then-place-from c ws t h e n a k =
    let w = c.args.window.now in
    subst (λ (x : Text). LookOf ws t x (Ok c.args.from))
    (sym (grown_none (knows w) w.low (width w) c.args.from.end c.args.place c.args.part.now a k (knows-above w) (⊎_elim inl (λ p. inr p.1) c.then-place-from.either)))
    (look-none ws t c.args.from n e)

-- where the part reaches past the end of the text, it is looked at from there on, and then what is known behind it
module _ (w : Window) (ws : List Text) (t : Text) (end place : ℕ) (bs xs ys : List ℕ) (a : w.low ≤ end) (k : knows w end ≡ None)
    (from : place ≤ end) (to : end < place + length bs) (within : Within w.low (width w) place (length bs)) where
  abbrev part : List ℕ
  part = overlay (knows w) end (between (end - place) (length bs) bs)

  abbrev more : List ℕ
  more = onwards (width w) (place + length bs) (knows w)

  abbrev grown : List ℕ
  grown = onwards (width w) end (learn (piece place bs) (knows w))

  is : part ++ more ≡ grown
  is =
      ap (λ x. overlay (knows w) end x ++ more) (between_to_end bs (end - place) (length bs) (omega arith))
      ∙ grown_by (knows w) w.low (width w) end place bs a k (knows-above w) from to (within.below (omega arith))

  found_part : (u : WordAt) → LookOf ws t part (Err u) → LookOf ws t grown (Err u)
  found_part u j = subst (λ (x : Text). LookOf ws t x (Err u)) is (look-past ws t part more u j)

  module _ (known : xs ++ ys ≡ more) (s : Reached) (clean : LookOf ws t part (Ok s)) where
    all : part ++ (xs ++ ys) ≡ grown
    all = ap (λ x. part ++ x) known ∙ is

    found_first : (u : WordAt) → LookOf ws (t ++ part) xs (Err u) → LookOf ws t grown (Err u)
    found_first u j = subst (λ (x : Text). LookOf ws t x (Err u)) all (look-more ws t part (xs ++ ys) s (Err u) clean (look-past ws (t ++ part) xs ys u j))

    found_second : (q : Reached) (r : Result Reached WordAt) → LookOf ws (t ++ part) xs (Ok q) → LookOf ws ((t ++ part) ++ xs) ys r → LookOf ws t grown r
    found_second q r j l = subst (λ (x : Text). LookOf ws t x r) all (look-more ws t part (xs ++ ys) s r clean (look-more ws (t ++ part) xs ys q r j l))

pub returns-in_err-reached : goal.returns-in_err-reached
returns-in_err-reached c ws t h e n a k =
    let p = err_from_is_err_and c.from_residual.result c.from_residual.ensures.1 in
    rw (p.1, p.2) (found_part c.args.window.now ws t c.args.from.end c.args.place c.args.part.now [] [] a k c.if-place-from.false c.if-reach-from.false c.requires.within
    c.in_err-reached.field-0.0 (c.in_err-reached.ensures.looks ws t h e n))

-- where the part ends that was looked at, there is room for what is known behind it
pub on-requires-2 : goal.on-requires-2
on-requires-2 c =
    let bs = c.args.part.now in
    let new = between (c.args.from.end - c.args.place) (length bs) bs in
    let rest : length new ≡ length bs - (c.args.from.end - c.args.place) = ap length (between_to_end bs (c.args.from.end - c.args.place) (length bs) (omega arith)) ∙ length-drop (c.args.from.end - c.args.place) bs in
    omega (
      arith,
      rest,
      c.in_ok-reached.ensures.end,
      c.in_ok-on.ensures.end,
      run_most c.args.window.now (c.args.place + length bs) c.known_from.result.0.now c.known_from.result.1.now c.known_from.ensures,
      c.requires.fits (omega arith),
    )

pub on-requires : goal.on-requires
on-requires c =
    let bs = c.args.part.now in
    let new = between (c.args.from.end - c.args.place) (length bs) bs in
    let rest : length new ≡ length bs - (c.args.from.end - c.args.place) = ap length (between_to_end bs (c.args.from.end - c.args.place) (length bs) (omega arith)) ∙ length-drop (c.args.from.end - c.args.place) bs in
    omega (
      arith,
      rest,
      c.in_ok-reached.ensures.end,
      run_most c.args.window.now (c.args.place + length bs) c.known_from.result.0.now c.known_from.result.1.now c.known_from.ensures,
      c.requires.fits (omega arith),
    )

pub returns-in_err-on : goal.returns-in_err-on
returns-in_err-on c ws t h e n a k =
    let p = err_from_is_err_and c.from_residual-in_err-on.result c.from_residual-in_err-on.ensures.1 in
    let clean = c.in_ok-reached.ensures.looks ws t h e n in
    rw (p.1, p.2) (found_first c.args.window.now ws t c.args.from.end c.args.place c.args.part.now c.known_from.result.0.now c.known_from.result.1.now a k
    c.if-place-from.false c.if-reach-from.false c.requires.within c.known_from.ensures c.in_ok-reached.reached clean
    c.in_err-on.field-0.0 (c.in_err-on.ensures.looks ws _ h clean.2 clean.1))

pub returns : goal.returns
returns c ws t h e n a k =
    let clean = c.in_ok-reached.ensures.looks ws t h e n in
    let first = c.in_ok-on.ensures.looks ws _ h clean.2 clean.1 in
    found_second c.args.window.now ws t c.args.from.end c.args.place c.args.part.now c.known_from.result.0.now c.known_from.result.1.now a k
    c.if-place-from.false c.if-reach-from.false c.requires.within c.known_from.ensures c.in_ok-reached.reached clean
    c.in_ok-on.field-0 c.on-2.result first (c.on-2.ensures.looks ws _ h first.2 first.1)
