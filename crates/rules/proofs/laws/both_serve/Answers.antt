use Rattle.rules.specs.BothLaws.{both_lawful}
use Rattle.rules.proofs.laws.both_serve.Goals as goal

pub returns-clause-laws : goal.returns-clause-laws
returns-clause-laws g c =
    let both = c.args.rule.now in
    λ n a b. both_lawful (g.met.A.Rule.lawful both.first n a) (g.met.B.Rule.lawful both.second n b)
