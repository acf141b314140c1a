use Rattle.std.proofs.Common.{max, [], ◌∷◌, ◌++◌, sym, refl, ap, ◌∙◌, subst}
use Rattle.std.proofs.lemmas.Bool.{cond-true, cond-false}
use Rattle.window.specs.Known.{forget}
use Rattle.window.specs.Window.{knows, width}
use Rattle.stream.specs.Shown.{Shown}
use Rattle.stream.specs.Steps.{Acked, run}
use Rattle.stream.specs.Stream.{Stream, acknowledged_to, blank}
use Rattle.stream.specs.declared.stream.Stream.{Stream as Value}
use Rattle.stream.proofs.Kept.{promise}
use Rattle.stream.proofs.MarkLaws.{acked_shown}
use Rattle.stream.proofs.TakeLaws.{stands_more}
use Rattle.stream.proofs.stream.Stream.acknowledge.Goals as goal

pub returns-then-self : goal.returns-then-self
returns-then-self c = record {
  width = refl;
  took = λ ws before ne st.
      let v = c.args.self.now in
      let w = width v.window in
      let s = run w ws blank before in
      record {
        stands = stands_more ws before (Acked c.args.place) w v refl
            (subst (λ (t : Stream). Shown ws t v) (sym (cond-true s.shut s (acknowledged_to c.args.place s) (sym st.shut ∙ c.if-self.true))) st);
        kept = promise w ws ne (before ++ (Acked c.args.place ∷ []));
      };
}

pub returns : goal.returns
returns c = record {
  width = c.advance.ensures.width;
  took = λ ws before ne st.
      let v = c.args.self.now in
      let w = width v.window in
      let s = run w ws blank before in
      let v' : Value = record { window = c.advance.new.self; marks = c.acknowledged-marks.result } in
      record {
        stands = stands_more ws before (Acked c.args.place) w v' c.advance.ensures.width
            (subst (λ (t : Stream). Shown ws t v') (sym (cond-false s.shut s (acknowledged_to c.args.place s) (sym st.shut ∙ c.if-self.false)))
            (acked_shown ws s v v' st c.args.place c.acknowledged-marks.ensures c.advance.ensures.width
            (c.advance.ensures.low ∙ ap (λ m. max v.window.low m.low) c.acknowledged-marks.ensures)
            (λ i. c.advance.ensures.known i ∙ ap (λ m. forget m.low (knows v.window) i) c.acknowledged-marks.ensures)));
        kept = promise (width v'.window) ws ne (before ++ (Acked c.args.place ∷ []));
      };
}
