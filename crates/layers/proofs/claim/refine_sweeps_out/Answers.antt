use Rattle.layers.proofs.Wholes.{refine-sweeps-out}
use Rattle.layers.proofs.claim.refine_sweeps_out.Goals as goal

pub returns : goal.returns
returns g c = refine-sweeps-out _ _ _ (λ n h. g.met.R.Rule.lawful c.args.rule.now n h)
