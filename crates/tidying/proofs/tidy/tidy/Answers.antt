use Rattle.std.proofs.Common.{arith}
use Rattle.std.proofs.lemmas.Grind.{common_steps}
use Rattle.tidying.proofs.Targets.{bare_counted}
use Rattle.tidying.proofs.tidy.tidy.Goals as goal

pub tidy_all-requires-clause-bare : goal.tidy_all-requires-clause-bare
tidy_all-requires-clause-bare g c = bare_counted c.args.blank.now

pub returns-clause-few : goal.returns-clause-few
returns-clause-few g c = grind (arith, common_steps)
