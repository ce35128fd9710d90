use Rattle.std.proofs.Common.{rules}
use Rattle.rules.proofs.keepers.rule.KeepersRule.step.Goals as goal

pub returns-then-has_door : goal.returns-then-has_door
returns-then-has_door c = search rules
