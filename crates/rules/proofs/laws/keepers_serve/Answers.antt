use Rattle.rules.specs.KeepersLaws.{keepers_lawful}
use Rattle.rules.proofs.laws.keepers_serve.Goals as goal

pub returns-clause-laws : goal.returns-clause-laws
returns-clause-laws c = keepers_lawful c.args.rule.now.round.now
