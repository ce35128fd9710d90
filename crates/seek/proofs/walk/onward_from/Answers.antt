use Rattle.std.proofs.Common.{ℕ, ◌+◌, get_or, ap, add-one, arith}
use Rattle.seek.specs.Rows.{by_first, views}
use Rattle.seek.proofs.Views.{view-target, over-none}
use Rattle.seek.proofs.walk.onward_from.Goals as goal

pub loop-k-preserved : goal.loop-k-preserved
loop-k-preserved g c = λ i j.
    let k = c.loop-k.k in
    let row = c.args.below.now in
    let t : ℕ = get_or c.args.u.now.arcs.to k 0 in
    let x = by_first i j (views i j row) c.args.u.now k in
    grind (arith, c.loop-k.invariant i j, ap (by_first i j (views i j row) c.args.u.now) (add-one k), view-target i j row t, over-none i j (k + 1) row t x)
