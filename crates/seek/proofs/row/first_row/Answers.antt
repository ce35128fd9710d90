use Rattle.std.proofs.Common.{◌-◌, replicate, refl, arith}
use Rattle.seek.specs.Rows.{none, at_end}
use Rattle.seek.proofs.Paths.{layer-within, reached-end, reached-more, reached-first}
use Rattle.seek.proofs.Places.{is_none}
use Rattle.seek.proofs.row.first_row.Goals as goal

pub loop-k-init : goal.loop-k-init
loop-k-init g c = reached-end c.args.i c.args.j c.args.n c.args.width c.args.nodes.now at_end (replicate 254 none) refl (is_none 254)

pub places_of-requires : goal.places_of-requires
places_of-requires g c = layer-within (c.loop-k.k - 1) c.loop-k.k c.args.n c.args.width _ (omega arith) (omega arith) c.requires.width_in_bounds

pub loop-k-preserved : goal.loop-k-preserved
loop-k-preserved g c =
    reached-more c.args.i c.args.j c.args.n c.args.width c.args.nodes.now (c.loop-k.k - 1) c.loop-k.k c.loop-k.row c.row_of-row.result c.places_of.result.now
    (omega arith) (omega arith) c.places_of.ensures.places c.row_of-row.ensures c.loop-k.invariant

pub returns : goal.returns
returns g c = reached-first c.args.i c.args.j c.args.n c.args.width c.args.nodes.now c.loop-k.k c.loop-k.row (omega arith) c.loop-k.invariant
