use Rattle.std.proofs.Common.{[], ◌∷◌, length-append, arith}
use Rattle.outlook.proofs.KeptSets.{kept_more}
use Rattle.outlook.proofs.load_orders.kept_below.Goals as goal

pub loop-set-preserved : goal.loop-set-preserved
loop-set-preserved c =
    let before = c.loop-set.kept.items in
    let b = c.is_kept.result in
    let inv = c.loop-set.invariant in
    rw c.in_ok-push.ensures.items
    (omega (arith, length-append before (b ∷ []), inv.0), kept_more c.args.round.now c.args.ahead.now before b inv.1 (rw inv.0 c.is_kept.ensures))
