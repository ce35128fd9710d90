use Rattle.layers.proofs.Main.{worked-out}
use Rattle.layers.proofs.claim.labels_stand.Goals as goal

pub returns : goal.returns
returns g c = worked-out _ _ _ (λ n h. g.met.R.Rule.lawful c.args.rule.now n h)
