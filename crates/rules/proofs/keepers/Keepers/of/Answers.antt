use Rattle.std.proofs.Common.{rules}
use Rattle.rules.proofs.keepers.Keepers.of.Goals as goal

pub invariant_of-result : goal.invariant_of-result
invariant_of-result c = search rules
