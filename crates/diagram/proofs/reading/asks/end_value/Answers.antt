use Rattle.layers.proofs.Shaped.{bound-none, bound_some}
use Rattle.diagram.proofs.reading.asks.end_value.Goals as goal

pub returns-then-end-eq0 : goal.returns-then-end-eq0
returns-then-end-eq0 g c = bound-none c.args.n c.args.width c.args.nodes.now c.index-nodes-n.result c.requires.width_in_bounds c.index-nodes-n.is c.if-end-eq0.true

pub returns-else-end-eq0 : goal.returns-else-end-eq0
returns-else-end-eq0 g c = bound_some c.args.n c.args.width c.args.nodes.now c.index-nodes-n.result c.requires.width_in_bounds c.index-nodes-n.is c.if-end-eq0.false
