-- The first layers are written.
use Rattle.std.specs.Fmt.{HasWritten, IsPlainFormatter}
use Rattle.diagram.specs.Reading.{records_in, round_in, width_in}
use Rattle.picture.specs.Pictures.{layers_text}
use Rattle.picture.proofs.drawing.PictureDisplay.fmt.Given as goal

abbrev pub invariant-loop-layer : goal.invariant-loop-layer
invariant-loop-layer g l =
    let form = l.self.0.now in
    IsPlainFormatter l.initial.f
    → HasWritten g.W.Write.write_str_gives l.initial.f (layers_text (round_in form).n (width_in form) (records_in form) l.layer-counter) l.f
