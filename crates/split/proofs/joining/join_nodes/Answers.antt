use Rattle.std.proofs.Common.{◌-◌, ◌++◌, ap₂, ◌∙◌}
use Rattle.split.specs.Joined.{joined_second}
use Rattle.split.specs.Steps.{joined_one}
use Rattle.split.proofs.joining.join_nodes.Goals as goal

pub returns : goal.returns
unfolding joined_one
returns g c =
    let s = c.split_at_mut-rest.ensures in
    ap₂ (λ ys zs. ys ++ zs) s.front (c.unite.ensures ∙ ap₂ (λ ys z. joined_second c.args.by.now.width (c.args.lo - 1) (c.args.hi - 1) ys z) s.back c.blank_node-blank.ensures)
