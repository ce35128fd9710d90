use Rattle.rules.specs.LoadLaws.{load_lawful}
use Rattle.rules.proofs.laws.load_serves.Goals as goal

pub returns-clause-laws : goal.returns-clause-laws
returns-clause-laws c = load_lawful c.args.rule.now.round.now
