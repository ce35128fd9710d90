use Rattle.layers.proofs.Main.{labels-mean}
use Rattle.layers.proofs.claim.labels_mean.Goals as goal

pub returns : goal.returns
returns g c = labels-mean _ _ _ _ (λ n h. g.met.R.Rule.lawful c.args.rule.now n h) (λ n h. g.met.T.Tally.lawful c.args.tally.now n h)
