use Rattle.std.proofs.Common.{rules}
use Rattle.diagram.proofs.reading.ReadingForm.layer.Goals as goal

pub returns : goal.returns
returns g c = search rules
