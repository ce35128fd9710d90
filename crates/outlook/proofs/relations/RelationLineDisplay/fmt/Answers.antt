use Rattle.std.proofs.Common.{arith}
use Rattle.std.proofs.lemmas.Grind.{common_steps}
use Rattle.outlook.proofs.relations.RelationLineDisplay.fmt.Goals as goal

pub returns-in-Pair-clause-writes : goal.returns-in-Pair-clause-writes
returns-in-Pair-clause-writes g c = grind (arith, common_steps)
