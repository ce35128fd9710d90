use Rattle.std.proofs.Common.{rules}
use Rattle.rules.proofs.load.rule.LoadRule.cover.Goals as goal

pub returns : goal.returns
returns c = search rules
