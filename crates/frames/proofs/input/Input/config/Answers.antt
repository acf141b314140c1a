use Rattle.std.proofs.Common.{◌-◌, take, drop, vec_items, refl, subst}
use Rattle.automaton.proofs.ReadLaws.{was_ok}
use Rattle.frames.specs.Configs.{ReadsConfig}
use Rattle.frames.proofs.TakeLaws.{took_config}
use Rattle.frames.proofs.input.Input.config.Goals as goal

pub returns : goal.returns
returns c =
    let i = c.args.self.now in
    let is = was_ok _ c.read.result (c.in_ok-config.config, c.in_ok-config.taken) c.in_ok-config.ensures.cases in
    let reads = subst (λ r. ReadsConfig (take (i.end - i.start) (drop i.start c.deref.result.now)) r) is c.read.ensures in
    let t = took_config (vec_items i.buffer) i.start i.end i.forward i.within c.deref.result.now c.in_ok-config.config c.in_ok-config.taken c.deref.ensures.value reads in
    (c.in_ok-config.taken, t.0, record { left = t.2; within = t.1; offset = refl; buffer = refl })
