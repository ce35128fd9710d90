use Rattle.std.proofs.Common.{rules}
use Rattle.rules.proofs.keepers.rule.KeepersRule.start.Goals as goal

pub returns : goal.returns
returns c = search rules
