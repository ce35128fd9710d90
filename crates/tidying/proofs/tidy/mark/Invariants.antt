use Rattle.std.proofs.Common.{◌≡◌, take}
use Rattle.layers.specs.Targets.{targets}
use Rattle.tidying.specs.Tidied.{marked}
use Rattle.tidying.proofs.tidy.mark.Given as goal

abbrev pub invariant-loop-t : goal.invariant-loop-t
invariant-loop-t g l = l.marks ≡ marked l.initial.marks (take l.t-index (targets l.x))
