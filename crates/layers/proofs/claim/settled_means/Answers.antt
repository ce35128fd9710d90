use Rattle.layers.proofs.Main.{settled-means}
use Rattle.layers.proofs.claim.settled_means.Goals as goal

pub returns : goal.returns
returns g c = settled-means _ _ _ (λ n h. g.met.R.Rule.lawful c.args.rule.now n h)
