use Rattle.std.proofs.Common.{◌≡◌, ℕ, ◌-◌, ◌<◌, get_or, ap, ◌∙◌, rules}
use Rattle.std.proofs.lemmas.List.FromFn.{fill_by_all}
use Rattle.layers.specs.Targets.{with_targets}
use Rattle.split.specs.Joined.{moved_to, moved_node}
use Rattle.labels.proofs.Redirects.{by_door, redirect-made}
use Rattle.split.proofs.moving.move_node.Goals as goal

pub returns : goal.returns
unfolding moved_node
returns g c =
    let x = c.args.x.now in
    let f = moved_to (c.args.lo - 1) (c.args.hi - 1) in
    let made = c.map-to.ensures.items in
    let each : (k : ℕ) → k < 16 → get_or c.map-to.result k 0 ≡ by_door f x k = λ k lt. let h = (made.at k 0 0 lt).2 in search rules in
    ap (with_targets x) (fill_by_all (by_door f x) c.map-to.result 16 0 made.long each) ∙ redirect-made f x
