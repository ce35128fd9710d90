use Rattle.std.proofs.Common.{refl}
use Rattle.refine.specs.Steps.{one_layer}
use Rattle.refine.proofs.refine.refine_layer.Goals as goal

pub returns : goal.returns
unfolding one_layer
returns g c = rw (← c.sweep_once.ensures.records, ← c.part_layer-full.ensures.steps) (record { full = refl; records = c.relabel_below.ensures.passes })
