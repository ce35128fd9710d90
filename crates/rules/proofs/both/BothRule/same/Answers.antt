use Rattle.std.proofs.Common.{rules}
use Rattle.rules.proofs.both.BothRule.same.Goals as goal

pub returns-then-same : goal.returns-then-same
returns-then-same g c = search rules
