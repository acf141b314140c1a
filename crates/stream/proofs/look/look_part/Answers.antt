use Rattle.std.proofs.Common.{◌≡◌, ℕ, ◌+◌, ◌-◌, ◌≤◌, List, [], ◌++◌, length, drop, Ok, Err, refl, sym, ap, ◌∙◌, subst, arith}
use Rattle.std.specs.List.{between}
use Rattle.std.proofs.lemmas.List.{append-nil, length-drop, nil_from_length}
use Rattle.std.proofs.lemmas.Bool.Decides.{nat_tests}
use Rattle.std.proofs.lemmas.Result.{err_from_is_err_and}
use Rattle.std.proofs.lemmas.Slice.{between_to_end}
use Rattle.window.specs.Known.{overlay}
use Rattle.window.specs.Window.{knows}
use Rattle.stream.specs.Look.{LookOf}
use Rattle.stream.proofs.LookLaws.{look-more, look-none, look-past, seen_more}
use Rattle.stream.proofs.look.look_part.Goals as goal

pub loop-rest-init : goal.loop-rest-init
loop-rest-init c = ([], refl, omega arith, c.requires.within, λ ws t h e n. look-none ws t c.args.from n e)

pub on-requires : goal.on-requires
on-requires c = let so = c.loop-rest.invariant in omega (arith, so.2, c.overlaid_front-front.ensures.most, c.requires.fits)

pub returns-in_err-reached : goal.returns-in_err-reached
returns-in_err-reached c =
    let p = err_from_is_err_and c.from_residual.result c.from_residual.ensures.1 in
    let so = c.loop-rest.invariant in
    let seen = so.0 in
    let front = c.overlaid_front-front.result.now in
    let word = c.in_err-reached.field-0.0 in
    rw (p.1, p.2) (record {
      end = tt;
      looks = λ ws t h e n.
          let clean = so.4 ws t h e n in
          let found = look-more ws t seen front c.loop-rest.reached (Err word) clean (c.in_err-reached.ensures.looks ws (t ++ seen) h clean.2 clean.1) in
          subst (λ (x : List ℕ). LookOf ws t x (Err word))
          (sym (seen_more (knows c.args.window.now) c.args.from.end c.loop-rest.reached.end c.args.part.now seen c.loop-rest.rest.now front so.1 c.overlaid_front-front.ensures))
          (look-past ws t (seen ++ front) _ word found);
    })

pub loop-rest-preserved : goal.loop-rest-preserved
loop-rest-preserved c =
    let so = c.loop-rest.invariant in
    let seen = so.0 in
    let rest = c.loop-rest.rest.now in
    let front = c.overlaid_front-front.result.now in
    let most : length front ≤ length rest = c.overlaid_front-front.ensures.most in
    let end : c.in_ok-reached.reached.end ≡ c.loop-rest.reached.end + length front = c.in_ok-reached.ensures.end in
    let left : between (length front) (length rest) rest ≡ drop (length front) rest = between_to_end rest (length front) (length rest) (omega arith) in
    let long : length (between (length front) (length rest) rest) ≡ length rest - length front = ap length left ∙ length-drop (length front) rest in (
      seen ++ front,
      rw (left, end) (seen_more (knows c.args.window.now) c.args.from.end c.loop-rest.reached.end c.args.part.now seen rest front so.1 c.overlaid_front-front.ensures),
      omega (arith, long, so.2),
      record { above = λ l. omega (arith, long, so.3.above (omega (arith, long))); below = λ l. omega (arith, long, so.3.below (omega (arith, long))) },
      λ ws t h e n.
          let clean = so.4 ws t h e n in
          look-more ws t seen front c.loop-rest.reached (Ok c.in_ok-reached.reached) clean (c.in_ok-reached.ensures.looks ws (t ++ seen) h clean.2 clean.1),
    )

pub returns : goal.returns
unfolding overlay
returns c =
    let so = c.loop-rest.invariant in
    let zero : length c.loop-rest.rest.now ≡ 0 = grind (arith, nat_tests) in
    let none : c.loop-rest.rest.now ≡ [] = nil_from_length c.loop-rest.rest.now zero in
    let all : overlay (knows c.args.window.now) c.args.from.end c.args.part.now ≡ so.0 =
    so.1 ∙ ap (λ x. so.0 ++ overlay (knows c.args.window.now) c.loop-rest.reached.end x) none ∙ append-nil so.0 in
    record {
      end = omega (arith, so.2);
      looks = λ ws t h e n. subst (λ (x : List ℕ). LookOf ws t x (Ok c.loop-rest.reached)) (sym all) (so.4 ws t h e n);
    }
