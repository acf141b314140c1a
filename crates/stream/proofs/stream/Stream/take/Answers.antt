use Rattle.std.proofs.Common.{◌≡◌, ◌-◌, true, length, is_some, Some, None, Ok, Err, sym, refl, ap, ◌∙◌, arith}
use borrow.Rule.Slice.PartMut.{put_mid}
use Rattle.std.specs.List.{between}
use Rattle.std.proofs.lemmas.List.Edits.{length-between}
use Rattle.std.proofs.lemmas.Slice.{between-put_mid, drop-put_mid, take-put_mid_below}
use Rattle.window.specs.Window.{knows, width}
use Rattle.window.proofs.KnownLaws.{length-overlay}
use Rattle.stream.specs.Part.{fin_may_stand, kept_if}
use Rattle.stream.specs.Steps.{Segment, fin_left, run}
use Rattle.stream.specs.Stream.{blank}
use Rattle.stream.specs.declared.stream.Stream.{Stream as Value}
use Rattle.stream.specs.declared.answer.Refused.TheVariants.{Shut, Word}
use Rattle.stream.proofs.Kept.{promise}
use Rattle.stream.proofs.TakeLaws.{closed-outcome, empty-outcome, fin_kept, fin_none, looks, part_inside, passed-outcome, passed_shown, shut_shown, text_ends_lem, text_low, took, word-outcome}
use Rattle.stream.proofs.stream.Stream.take.Goals as goal
use Rattle.stream.proofs.stream.Stream.take.Goals.{then-fin, else-fin, else-start-end-via-then-start-end+else-is_none, else-start-end-via-else-start-end}

pub returns-then-self : goal.returns-then-self
returns-then-self c = record {
  width = refl;
  left = refl;
  took = λ ws before ne tb st.
      let v = c.args.self.now in
      let a : Segment = record { at = c.args.at; bytes = c.args.payload.now; fin = c.args.fin } in
      took ws before a (width v.window) v c.args.payload.now (Err Shut) ne refl
      (closed-outcome (width v.window) ws (run (width v.window) ws blank before) a (sym st.shut ∙ c.if-self.true)) st tt;
}

pub returns-then-is_none : goal.returns-then-is_none
returns-then-is_none c = record {
  width = refl;
  left = refl;
  took = λ ws before ne tb st.
      let v = c.args.self.now in
      let a : Segment = record { at = c.args.at; bytes = c.args.payload.now; fin = c.args.fin } in
      let s = run (width v.window) ws blank before in
      let so = (promise (width v.window) ws ne before).sound in
      let r = c.part-part.result in
      let pa = c.part-part.ensures in
      let l = looks ws s v a r st so pa (Ok c.in-Ok.reached) ((rw c.reached.ensures at c.in-Ok.ensures) ws s.text tb st.state st.end (text_low ws s v a r st so pa) (text_ends_lem ws s v a r st so pa)) in
      let ek : c.if-fin.kept ≡ fin_left (width v.window) s a = elim c.if-fin.branch [
        | then-fin w ↦
            w.kept-is ∙ w.kept_fin-kept.ensures
            ∙ ap (kept_if (fin_may_stand v.window.low (width v.window) v.marks.fin (knows v.window))) w.after.ensures ∙ fin_kept ws s v a r st so pa w.if-fin.true
        | else-fin w ↦ w.kept-is ∙ fin_none ws s v a r st so pa w.if-fin.false
      ] in
      took ws before a (width v.window) v c.args.payload.now (Ok None) ne refl
      (empty-outcome ws s v a r st so pa (sym st.shut ∙ c.if-self.false) c.in-Ok.reached l c.if-fin.kept ek
      c.if-start-end.true c.if-is_none.ensures) st tt;
}

pub returns-in-Err : goal.returns-in-Err
returns-in-Err c = record {
  width = refl;
  left = refl;
  took = λ ws before ne tb st.
      let v = c.args.self.now in
      let a : Segment = record { at = c.args.at; bytes = c.args.payload.now; fin = c.args.fin } in
      let s = run (width v.window) ws blank before in
      let so = (promise (width v.window) ws ne before).sound in
      let r = c.part-part.result in
      let pa = c.part-part.ensures in
      let l = looks ws s v a r st so pa (Err c.in-Err.word) ((rw c.reached.ensures at c.in-Err.ensures) ws s.text tb st.state st.end (text_low ws s v a r st so pa) (text_ends_lem ws s v a r st so pa)) in
      took ws before a (width v.window) (record { window = v.window; marks = c.shut_down-self.result }) c.args.payload.now (Err (Word c.in-Err.word)) ne refl
      (word-outcome ws s v a r st so pa (sym st.shut ∙ c.if-self.false) c.in-Err.word l)
      (shut_shown ws s v a r st so pa (record { window = v.window; marks = c.shut_down-self.result }) refl c.shut_down-self.ensures) tt;
}

pub returns : goal.returns
returns c =
    let r = c.part-part.result in
    let pa = c.part-part.ensures in
    let payload = c.args.payload.now in
    let n : length c.write.new.part ≡ r.end - r.start =
    ap length c.write.ensures.part ∙ length-overlay (knows c.args.self.now.window) r.place (between r.start r.end payload) ∙ length-between payload r.start r.end pa.ends in
    record {
      width = c.write.ensures.width;
      left = (
        pa.ordered,
        pa.ends,
        take-put_mid_below r.start (r.end - r.start) payload c.write.new.part r.start (omega arith) (omega (arith, pa.ordered, pa.ends)),
        drop-put_mid r.start (r.end - r.start) payload c.write.new.part r.end (omega (arith, pa.ordered)) (omega (arith, pa.ordered, pa.ends)) n,
      );
      took = λ ws before ne tb st.
          let v = c.args.self.now in
          let a : Segment = record { at = c.args.at; bytes = payload; fin = c.args.fin } in
          let s = run (width v.window) ws blank before in
          let so = (promise (width v.window) ws ne before).sound in
          let l = looks ws s v a r st so pa (Ok c.in-Ok.reached)
          ((rw c.reached.ensures at c.in-Ok.ensures) ws s.text tb st.state st.end (text_low ws s v a r st so pa) (text_ends_lem ws s v a r st so pa)) in
          let ek : c.if-fin.kept ≡ fin_left (width v.window) s a = elim c.if-fin.branch [
            | then-fin w ↦
                w.kept-is ∙ w.kept_fin-kept.ensures
                ∙ ap (kept_if (fin_may_stand v.window.low (width v.window) v.marks.fin (knows v.window))) w.after.ensures ∙ fin_kept ws s v a r st so pa w.if-fin.true
            | else-fin w ↦ w.kept-is ∙ fin_none ws s v a r st so pa w.if-fin.false
          ] in
          let some : r.start ≡ r.end → is_some c.if-fin.kept ≡ true = λ e. elim c.else-start-end.branch [
            | else-start-end-via-then-start-end+else-is_none w ↦ w.if-is_none.ensures
            | else-start-end-via-else-start-end w ↦ absurd (w.if-start-end.false e)
          ] in
          let bytes = put_mid r.start (r.end - r.start) payload c.write.new.part in
          let v' : Value = record { window = c.write.new.self.window; marks = c.grown-self.result } in
          let is_open = sym st.shut ∙ c.if-self.false in
          took ws before a (width v.window) v' bytes (Ok (Some (record { part = r; fin = c.if-fin.kept }))) ne c.write.ensures.width
          (passed-outcome ws s v a r st so pa is_open c.in-Ok.reached l c.if-fin.kept ek (between r.start r.end bytes)
          (between-put_mid r.start (r.end - r.start) payload c.write.new.part r.end (omega (arith, pa.ordered, pa.ends)) n ∙ c.write.ensures.part) some)
          (passed_shown ws s v a r st so pa is_open c.in-Ok.reached l c.if-fin.kept ek v' c.grown-self.ensures c.write.ensures.low c.write.ensures.width c.write.ensures.known)
          (part_inside ws s v a r st so pa);
    }
