use Rattle.std.proofs.Common.{rules}
use Rattle.outlook.proofs.Tables.{filled_more}
use Rattle.outlook.proofs.earliest.ends_from_yard.Goals as goal

pub loop-j-preserved : goal.loop-j-preserved
loop-j-preserved c = search (rules, filled_more)

pub returns-2-clause-doors : goal.returns-2-clause-doors
returns-2-clause-doors c i d = search (rules, filled_more)
