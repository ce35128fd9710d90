use Rattle.layers.proofs.Wholes.{whole-settles}
use Rattle.layers.proofs.claim.whole_settles.Goals as goal

pub returns : goal.returns
returns g c = whole-settles _ _ _ (λ n h. g.met.R.Rule.lawful c.args.rule.now n h)
