use Rattle.std.proofs.Common.{arith}
use Rattle.tidying.proofs.Counts.{together_same}
use Rattle.tidying.proofs.tidy.tidy_nodes.Goals as goal

pub returns-clause-lost : goal.returns-clause-lost
returns-clause-lost g c = grind (arith, together_same)
