use Rattle.rules.specs.PairsLaws.{pairs_lawful}
use Rattle.rules.proofs.laws.pairs_serve.Goals as goal

pub returns-clause-laws : goal.returns-clause-laws
returns-clause-laws c = let r = c.args.rule.now.round.now in pairs_lawful r.n r.ahead
