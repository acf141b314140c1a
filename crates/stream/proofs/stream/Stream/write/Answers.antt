use Rattle.std.proofs.Common.{refl, ap, ◌∙◌}
use Rattle.window.specs.Known.{learn, piece}
use Rattle.window.specs.Window.{knows}
use Rattle.window.proofs.KnownLaws.{learn-overlay}
use Rattle.stream.proofs.stream.Stream.write.Goals as goal

pub returns : goal.returns
returns c = record {
  part = c.overlay.ensures.overlaid;
  known = λ i.
      c.learn.ensures.known i ∙ ap (λ bs. learn (piece c.args.place bs) (knows c.args.self.now.window) i) c.overlay.ensures.overlaid
      ∙ learn-overlay c.args.place c.args.part.now (knows c.args.self.now.window) i;
  low = c.learn.ensures.low;
  width = c.learn.ensures.width;
  marks = refl;
}
