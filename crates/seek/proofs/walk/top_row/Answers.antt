use Rattle.std.proofs.Common.{◌-◌, arith}
use Rattle.seek.specs.Rows.{views}
use Rattle.seek.proofs.Paths.{layer-within, reached-more, reached-first}
use Rattle.seek.proofs.Views.{views-reached}
use Rattle.seek.proofs.walk.top_row.Goals as goal

pub loop-k-init : goal.loop-k-init
loop-k-init g c = λ i j. views-reached i j c.args.n c.args.width c.args.nodes.now 127

pub places_of-requires : goal.places_of-requires
places_of-requires g c = layer-within (c.loop-k.k - 1) c.loop-k.k c.args.n c.args.width _ (omega arith) (omega arith) c.requires.width_in_bounds

pub loop-k-preserved : goal.loop-k-preserved
loop-k-preserved g c = λ i j.
    reached-more i j c.args.n c.args.width c.args.nodes.now (c.loop-k.k - 1) c.loop-k.k (views i j c.loop-k.row) (views i j c.row_above-row.result) c.places_of.result.now
    (omega arith) (omega arith) c.places_of.ensures.places (c.row_above-row.ensures i j) (c.loop-k.invariant i j)

pub returns : goal.returns
returns g c = λ i j.
    reached-first i j c.args.n c.args.width c.args.nodes.now c.loop-k.k (views i j c.loop-k.row) (omega arith) (c.loop-k.invariant i j)
