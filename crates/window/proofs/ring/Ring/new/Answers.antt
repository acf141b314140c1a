use Rattle.std.proofs.Common.{◌≡◌, ◌-◌, ◌*◌, ◌/◌, ◌%◌, ◌^◌, length, ap, ◌∙◌, arith, pow_mono}
use Rattle.std.proofs.lemmas.Nat.{one_shl, pow-add}
use Rattle.std.proofs.lemmas.List.{length-replicate}
use Rattle.window.specs.Ring.{cell}
use Rattle.window.proofs.BitLaws.{bit-zero}
use Rattle.window.proofs.ring.Ring.new.Goals as goal

pub invariant_of-result-clause-round : goal.invariant_of-result-clause-round
invariant_of-result-clause-round c = ∣ (c.args.power, omega (arith, c.in_ok-vec.ensures.len, one_shl c.args.power 64 (omega arith))) ∣₁

pub invariant_of-result-clause-bits : goal.invariant_of-result-clause-bits
invariant_of-result-clause-bits c =
    let power = c.args.power in
    let cells : c.in_ok-vec.field-0.len ≡ 2 ^ power = omega (arith, c.in_ok-vec.ensures.len, one_shl power 64 (omega arith)) in
    let words : c.in_ok-new.field-0.words.len ≡ 2 ^ power / 64 = c.in_ok-new.field-0.words.ok.0 ∙ ap length c.in_ok-new.ensures ∙ length-replicate (1 * 2 ^ power % 2 ^ 64 / 64) 0 ∙ ap (λ n. n / 64) (one_shl power 64 (omega arith)) in
    let split : 2 ^ power ≡ 2 ^ (power - 6) * 64 = ap (λ n. 2 ^ n) (omega arith) ∙ pow-add 2 (power - 6) 6 in
    omega (arith, cells, words, split)

pub invariant_of-result-clause-least : goal.invariant_of-result-clause-least
invariant_of-result-clause-least c = omega (arith, c.in_ok-vec.ensures.len, one_shl c.args.power 64 (omega arith), pow_mono c.requires.least)

pub returns-clause-known : goal.returns-clause-known
unfolding cell
returns-clause-known c k = rw (c.in_ok-new.ensures, bit-zero (1 * 2 ^ c.args.power % 2 ^ 64 / 64) k)
