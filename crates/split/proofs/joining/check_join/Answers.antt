use Rattle.std.proofs.Common.{◌≡◌, ◌+◌, ◌-◌, ◌*◌, Ok, ap, ◌∙◌, sym}
use Rattle.layers.specs.Settings.{lent_setting}
use Rattle.labels.specs.Passes.{blank_node}
use Rattle.split.specs.Steps.{node_check, node_count, join_check}
use Rattle.split.proofs.Checks.{join-found}
use Rattle.split.proofs.joining.check_join.Goals as goal

pub returns : goal.returns
unfolding join_check
returns g c =
    let by = lent_setting c.args.by.now (g.R.Rule.sense c.args.by.now.rule.now) (g.T.Tally.sense c.args.by.now.tally.now) in
    let at = (c.args.layer - 1) * by.width + by.width in
    let m = node_count at by.width c.args.nodes.now in
    let a : node_check m c.args.a ≡ Ok tt = ap (λ m. node_check m c.args.a) (sym c.count_in-count.ensures.count) ∙ c.in_ok-check_node.ensures.clear in
    let b : node_check m c.args.b ≡ Ok tt = ap (λ m. node_check m c.args.b) (sym c.count_in-count.ensures.count) ∙ c.in_ok-check_node-2.ensures.clear in
    join-found by c.args.layer c.args.a c.args.b c.args.nodes.now c.check_pair.result (rw (c.in_ok-check_place.ensures.clear, a, b) (c.check_pair.ensures (blank_node by.rule by.tally)))
