use Rattle.std.proofs.Common.{rules}
use Rattle.rules.proofs.pairs.rule.PairsRule.bars.Goals as goal

pub returns : goal.returns
returns c = search rules
