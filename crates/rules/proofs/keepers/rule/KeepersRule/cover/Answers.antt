use Rattle.std.proofs.Common.{rules}
use Rattle.rules.proofs.keepers.rule.KeepersRule.cover.Goals as goal

pub returns : goal.returns
returns c = search rules
