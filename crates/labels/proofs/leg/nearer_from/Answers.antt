use Rattle.std.proofs.Common.{◌≡◌, ◌+◌, ◌-◌, max, get_or, arith}
use Rattle.std.proofs.lemmas.Grind.{common_steps}
use Rattle.labels.proofs.Legs.{line, line_at}
use Rattle.labels.proofs.leg.nearer_from.Goals as goal

pub loop-k-preserved : goal.loop-k-preserved
loop-k-preserved c =
    let k = c.loop-k.k in
    let own : c.max.result ≡ max (get_or c.args.row.now (k + 1) 0) (get_or line (16 - c.args.i + k) 0) = c.max.ensures in
    let here = rw (line_at c.args.i k (omega arith) (omega arith)) at own in
    record {
      done = λ m h. grind (arith, common_steps, here, c.loop-k.invariant.done m, c.loop-k.invariant.rest m);
      rest = λ m h. grind (arith, common_steps, c.loop-k.invariant.rest m);
    }
