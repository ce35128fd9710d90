use Rattle.std.proofs.Common.{rules}
use Rattle.labels.specs.Passes.{held_late}
use Rattle.labels.proofs.up.late_over.Goals as goal

pub returns : goal.returns
unfolding held_late
returns c = search rules
