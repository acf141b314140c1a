use Rattle.std.proofs.Common.{sym, ◌∙◌, arith}
use Rattle.automaton.proofs.ReadLaws.{was_ok}
use Rattle.frames.proofs.ConfigLaws.{config_is, taken_within, reads_behind}
use Rattle.frames.proofs.config.Config.read.Goals as goal

pub returns-in-Err : goal.returns-in-Err
returns-in-Err c =
    let h = was_ok _ c.read_header.result (c.in_ok-power.power, c.in_ok-power.quiet) c.in_ok-power.ensures.cases in
    let b = rw h at c.read_header.ensures.bound in
    reads_behind c.args.bytes.now _ c.in-Err.error c.behind.result (sym h ∙ c.read_header.ensures.value) b.2 (omega arith) c.in-Err.ensures c.behind.ensures

pub overflow_add-result : goal.overflow_add-result
overflow_add-result c =
    let h = was_ok _ c.read_header.result (c.in_ok-power.power, c.in_ok-power.quiet) c.in_ok-power.ensures.cases in
    let b = rw h at c.read_header.ensures.bound in
    omega (arith, taken_within c.args.bytes.now _ b.2 c.in-Ok.ensures)

pub returns : goal.returns
returns c =
    let h = was_ok _ c.read_header.result (c.in_ok-power.power, c.in_ok-power.quiet) c.in_ok-power.ensures.cases in
    let b = rw h at c.read_header.ensures.bound in
    (config_is c.args.bytes.now _ _ (sym h ∙ c.read_header.ensures.value) c.in-Ok.ensures, taken_within c.args.bytes.now _ b.2 c.in-Ok.ensures)
