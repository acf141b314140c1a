use Rattle.std.proofs.Common.{◌≡◌, ◌≤◌, length, sym, refl, ◌∙◌, arith}
use Rattle.std.proofs.lemmas.Bool.{both_ways}
use Rattle.std.proofs.lemmas.Bool.Decides.{nat_tests}
use Rattle.std.proofs.lemmas.Result.{err_from_is_err_and}
use Rattle.packet.specs.Bytes.{byte, read32}
use Rattle.frames.specs.Items.{header}
use Rattle.frames.proofs.ItemLaws.{header_other, header_unknown, spelled}
use Rattle.frames.proofs.read.read_header.Goals as goal

pub returns-in_default : goal.returns-in_default
unfolding header
returns-in_default c = record { value = grind (arith, nat_tests); bound = tt }

pub returns-in_default-bytes : goal.returns-in_default-bytes
unfolding header
returns-in_default-bytes c = record { value = grind (arith, nat_tests); bound = tt }

pub returns-then-power-lt10 : goal.returns-then-power-lt10
unfolding header
returns-then-power-lt10 c = record { value = grind (arith, nat_tests); bound = tt }

pub returns-in_default-bytes-2 : goal.returns-in_default-bytes-2
unfolding header
returns-in_default-bytes-2 c = record { value = grind (arith, nat_tests); bound = tt }

pub returns : goal.returns
unfolding header
returns c =
    let n : c.from_be_bytes.result ≡ read32 2 c.args.bytes.now = c.from_be_bytes.ensures ∙ spelled _ _ _ _ in
    let l : 6 ≤ length c.args.bytes.now = grind (arith, nat_tests) in
    let low : 10 ≤ byte 1 c.args.bytes.now = grind (arith, nat_tests) in
    let high : byte 1 c.args.bytes.now ≤ 16 = grind (arith, nat_tests) in
    record { value = grind (arith, nat_tests); bound = (low, high, l) }

pub returns-in_err-try_from : goal.returns-in_err-try_from
returns-in_err-try_from c =
    let p = err_from_is_err_and c.from_residual.result c.from_residual.ensures.1 in
    rw (p.1, p.2) (record { value = sym (header_unknown c.args.bytes.now c.in_err-try_from.field-0.0 c.in-len1-up.len_at_least c.in_err-try_from.ensures); bound = tt })

pub returns-then-ne : goal.returns-then-ne
returns-then-ne c = record {
  value = sym (header_other c.args.bytes.now c.in_ok-try_from.field-0 c.in-len1-up.len_at_least c.in_ok-try_from.ensures (λ e. both_ways _ refl (sym (rw e at c.if-ne.ensures))));
  bound = tt;
}
