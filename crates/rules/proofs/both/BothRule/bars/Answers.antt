use Rattle.std.proofs.Common.{rules}
use Rattle.rules.proofs.both.BothRule.bars.Goals as goal

pub returns-then-bars : goal.returns-then-bars
returns-then-bars g c = search rules

pub returns-else-bars : goal.returns-else-bars
returns-else-bars g c = search rules
