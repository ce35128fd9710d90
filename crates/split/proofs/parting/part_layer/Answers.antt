use Rattle.std.proofs.Common.{◌≡◌, ◌-◌, ◌*◌, false, List, ◌++◌, refl, ap, ◌∙◌, arith}
use Rattle.layers.specs.declared.node.Node.{Node}
use Rattle.layers.specs.Settings.{lent_setting}
use Rattle.split.specs.Steps.{layer_steps}
use Rattle.split.proofs.LayerWords.{layer-said}
use Rattle.split.proofs.Turns.{parts-done}
use Rattle.split.proofs.parting.part_layer.Goals as goal

pub returns-in-Ok : goal.returns-in-Ok
unfolding layer_steps
returns-in-Ok g c =
    let by = lent_setting c.args.by.now (g.R.Rule.sense c.args.by.now.rule.now) (g.T.Tally.sense c.args.by.now.tally.now) in
    let i = c.args.layer in
    let xs = c.args.nodes.now in
    let at = (i - 1) * by.width in
    let r = c.part_from.result in
    let s = c.split_at_mut.ensures in
    let ys = c.part_from.new.nodes in
    let all = c.split_at_mut.result.0.now ++ ys in
    let made : (r, all) ≡ layer_steps by i xs =
    ap (λ (us : List (Node g.row.R-State.Denot g.row.T-Value.Denot)). (r, us ++ ys)) s.front
    ∙ rw c.in-Ok.ensures.clear (parts-done by at r xs _ ys (let placed = c.in-Ok.ensures in omega (arith, placed.two_in_bounds)) s.back c.part_from.ensures) in
    record { steps = made; words = layer-said by (g.met.R.Rule.reflexive c.args.by.now.rule.now) i xs all r made }

pub returns-in-Err : goal.returns-in-Err
unfolding layer_steps
returns-in-Err g c =
    let by = lent_setting c.args.by.now (g.R.Rule.sense c.args.by.now.rule.now) (g.T.Tally.sense c.args.by.now.tally.now) in
    let i = c.args.layer in let xs = c.args.nodes.now in
    let no : (false, xs) ≡ layer_steps by i xs = rw c.in-Err.ensures refl in
    record { steps = no; words = layer-said by (g.met.R.Rule.reflexive c.args.by.now.rule.now) i xs xs false no }
