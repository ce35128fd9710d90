use Rattle.layers.specs.Settings.{lent_setting}
use Rattle.labels.specs.Passes.{cleared, crossed_all, end_renewed}
use Rattle.labels.proofs.Steps.{end_set}
use Rattle.labels.proofs.down.relabel_end.Goals as goal

pub returns : goal.returns
unfolding end_renewed
returns g c =
    let R = g.R.Rule.sense c.args.by.now.rule.now in
    let T = g.T.Tally.sense c.args.by.now.tally.now in
    rw (c.spread_layer.ensures, c.unreached.ensures) (end_set (crossed_all (lent_setting c.args.by.now R T) c.args.us.now) (cleared R T) c.args.vs.now c.index-vs-0.result c.requires)
