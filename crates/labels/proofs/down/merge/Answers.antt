use Rattle.std.proofs.Common.{rules}
use Rattle.layers.specs.Labels.{merge}
use Rattle.labels.proofs.down.merge.Goals as goal

pub returns : goal.returns
unfolding merge
returns g c = search rules
