use Rattle.layers.proofs.Main.{kept}
use Rattle.layers.proofs.claim.nothing_lost.Goals as goal

pub returns : goal.returns
returns g c = kept _ _ _ _ (λ n h. g.met.R.Rule.lawful c.args.rule.now n h) (λ n h. g.met.T.Tally.lawful c.args.tally.now n h)
