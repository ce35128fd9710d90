use Rattle.std.proofs.Common.{add-one, refl}
use Rattle.seek.proofs.row.by_first.Goals as goal

pub loop-k-preserved : goal.loop-k-preserved
loop-k-preserved g c = rw (add-one c.loop-k.k, c.either-got.ensures, c.loop-k.invariant, c.through.ensures) refl
