use Rattle.std.proofs.Common.{◌≡◌, ◌-◌, ◌≤◌, length, IfSome, Ok, Err, sym, refl, ap, ◌∙◌, arith, rules}
use Rattle.packet.specs.Rewrites.{Before}
use Rattle.std.proofs.lemmas.Option.{IfSome_then}
use Rattle.std.proofs.lemmas.Bool.{cond-false, cond-true}
use Rattle.std.proofs.lemmas.Result.{err_from_is_err_and}
use Rattle.filter.proofs.ForwardLaws.{differs_model, edit_within, err_left, handles_empty, handles_pass, handles_untaken, part_new, pass_left, patch_within, patched, payload_length, untaken_left, whole_new}
use Rattle.filter.proofs.connection.Connection.forward.Goals as goal
use Rattle.filter.proofs.connection.Connection.forward.Goals.{then-segment, else-segment}

pub rewrite-requires : goal.rewrite-requires
rewrite-requires c =
    let old = c.args.packet.now in
    let sg = c.args.segment.now in
    let rest = c.take.new.payload in
    let rd = c.requires in
    let l : sg.payload ≤ length old = omega (arith, rd.1.payload, rd.2.fits) in
    let n : length rest ≡ length old - sg.payload = c.take.auto.payload ∙ payload_length old sg.payload in
    let least : 40 ≤ sg.payload = omega (arith, rd.1.payload, rd.2.words) in
    let before : IfSome c.then-patch.result (Before old sg.payload (length old)) = IfSome_then c.then-patch.result c.then-patch.ensures.some (λ p made. search rules) in
    record {
      whole = whole_new old rest sg.payload l n least rd.2;
      kept = edit_within old rest sg.payload l n c.args.self.now.first sg refl c.in_ok-passed.passed c.in_ok-passed.ensures.left least rd.1.payload c.in_ok-edit.edit (sym c.edit_left.ensures ∙ c.in_ok-edit.was);
      patched = IfSome_then c.then-patch.result before (λ p b. patch_within old rest sg.payload l n least rd.1.payload p b);
    }

pub returns-in_err-passed : goal.returns-in_err-passed
returns-in_err-passed c =
    let old = c.args.packet.now in
    let sg = c.args.segment.now in
    let rest = c.take.new.payload in
    let rd = c.requires in
    let v = c.args.self.now in
    let l : sg.payload ≤ length old = omega (arith, rd.1.payload, rd.2.fits) in
    let n : length rest ≡ length old - sg.payload = c.take.auto.payload ∙ payload_length old sg.payload in
    let p = err_from_is_err_and c.from_residual.result c.from_residual.ensures.1 in
    rw (p.1, p.2) (record {
      left = untaken_left old rest sg.payload l n c.in_err-passed.ensures.left;
      handles = λ cf k m eq ne tb h.
          handles_untaken cf m v h old sg c.place-at.result ne rd (c.place-at.ensures cf m ne h) c.take.new.self rest (Err c.in_err-passed.field-0.0) c.take.ensures.width
          (c.in_err-passed.ensures.took cf.words h.before ne tb h.stands) k old _ refl refl refl refl refl c.in_err-passed.field-0.0 refl;
    })

pub returns-in_err-edit : goal.returns-in_err-edit
returns-in_err-edit c =
    let old = c.args.packet.now in
    let sg = c.args.segment.now in
    let rest = c.take.new.payload in
    let rd = c.requires in
    let v = c.args.self.now in
    let l : sg.payload ≤ length old = omega (arith, rd.1.payload, rd.2.fits) in
    let n : length rest ≡ length old - sg.payload = c.take.auto.payload ∙ payload_length old sg.payload in
    let p = err_from_is_err_and c.from_residual-in_err-edit.result c.from_residual-in_err-edit.ensures.1 in
    let ed = sym c.edit_left.ensures ∙ c.in_err-edit.was in
    rw (p.1, p.2) (record {
      left = err_left old rest sg.payload l n v.first sg refl c.in_ok-passed.passed c.in_ok-passed.ensures.left _ ed;
      handles = λ cf k m eq ne tb h.
          handles_empty cf m v h old sg c.place-at.result ne rd (c.place-at.ensures cf m ne h) c.take.new.self rest (Ok c.in_ok-passed.passed) c.take.ensures.width
          (c.in_ok-passed.ensures.took cf.words h.before ne tb h.stands) k old _ refl refl refl refl refl c.in_ok-passed.passed _ refl ed;
    })

pub returns : goal.returns
returns c =
    let old = c.args.packet.now in
    let sg = c.args.segment.now in
    let rest = c.take.new.payload in
    let rd = c.requires in
    let v = c.args.self.now in
    let l : sg.payload ≤ length old = omega (arith, rd.1.payload, rd.2.fits) in
    let n : length rest ≡ length old - sg.payload = c.take.auto.payload ∙ payload_length old sg.payload in
    let least : 40 ≤ sg.payload = omega (arith, rd.1.payload, rd.2.words) in
    let ed = sym c.edit_left.ensures ∙ c.in_ok-edit.was in
    let taken = c.in_ok-passed.ensures in
    let passed = c.in_ok-passed.passed in
    record {
      left = pass_left old rest sg.payload l n v.first sg refl passed taken.left least rd.1.payload c.in_ok-edit.edit ed
          c.rewrite.new.packet c.rewrite.result.start c.rewrite.result.end c.rewrite.ensures.rest;
      handles = λ cf k m eq ne tb h.
          let took = taken.took cf.words h.before ne tb h.stands in
          let over = patched cf m v h old sg c.place-at.result ne rd (c.place-at.ensures cf m ne h) c.take.new.self rest (Ok passed) c.take.ensures.width took passed refl taken.left
          c.differs.result (differs_model cf m v h old sg c.place-at.result ne rd (c.place-at.ensures cf m ne h) c.differs.result (c.differs.ensures cf.words h.before ne h.stands))
          c.then-patch.result c.then-patch.ensures.variant
          (IfSome_then c.then-patch.result c.then-patch.ensures.some (λ p made. search rules)) l n in
          handles_pass cf m v h old sg c.place-at.result ne rd (c.place-at.ensures cf m ne h) c.take.new.self rest (Ok passed) c.take.ensures.width took
          k _ c.rewrite.new.packet c.rewrite.result.start c.rewrite.result.end c.in_ok-edit.edit c.if-segment.self c.take.auto.payload
          (c.rewrite.ensures.out old rd.0 over) (part_new old rest sg.payload l n)
          (elim c.if-segment.branch [ then-segment w ↦ ap (λ x. x.stream) w.self-is | else-segment w ↦ ap (λ x. x.stream) w.self-is ])
          (elim c.if-segment.branch [ then-segment w ↦ ap (λ x. x.first) w.self-is | else-segment w ↦ ap (λ x. x.first) w.self-is ])
          (elim c.if-segment.branch [ then-segment w ↦ ap (λ x. x.opening) w.self-is | else-segment w ↦ ap (λ x. x.opening) w.self-is ])
          (elim c.if-segment.branch [
            | then-segment w ↦ ap (λ x. x.last_ack) w.self-is ∙ sym (cond-true sg.marks.ack sg.acknowledged v.last_ack w.if-segment.true)
            | else-segment w ↦ ap (λ x. x.last_ack) w.self-is ∙ sym (cond-false sg.marks.ack sg.acknowledged v.last_ack w.if-segment.false)
          ])
          (elim c.if-segment.branch [ then-segment w ↦ ap (λ x. x.left) w.self-is ∙ sym eq | else-segment w ↦ ap (λ x. x.left) w.self-is ∙ sym eq ])
          passed refl taken.left ed;
    }
