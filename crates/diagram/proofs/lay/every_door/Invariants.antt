use Rattle.std.proofs.Common.{◌≡◌}
use Rattle.layers.specs.Net.{table}
use Rattle.layers.specs.Records.{padded_targets}
use Rattle.diagram.proofs.lay.every_door.Given as goal

abbrev pub invariant-loop-k : goal.invariant-loop-k
invariant-loop-k l = l.to ≡ padded_targets (table l.k (λ j. 1))
