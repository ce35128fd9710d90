use Rattle.std.proofs.Common.{◌+◌, refl, arith, ◌∙◌}
use Rattle.std.proofs.lemmas.List.{length-set}
use Rattle.seek.proofs.Places.{row-start, row-ends, row-full, node_more, standing-some}
use Rattle.seek.proofs.row.row_of.Goals as goal

pub loop-a-init : goal.loop-a-init
loop-a-init g c = record { long = refl; stand = refl; seen = row-start 256 }

pub loop-a-preserved : goal.loop-a-preserved
loop-a-preserved g c =
    let us = c.args.us.now in
    let a = c.loop-a.a in
    let u = c.index-us-a.result in
    let inv = c.loop-a.invariant in
    record {
      long = length-set c.loop-a.row (a + 1) c.by_first.result ∙ inv.long;
      stand = standing-some us a u (omega arith) c.index-us-a.is (omega arith) inv.stand;
      seen = node_more us a u (omega arith) c.index-us-a.is _ c.loop-a.row c.by_first.result (omega (arith, inv.long)) c.by_first.ensures inv.seen;
    }

pub returns-then-u-eq0 : goal.returns-then-u-eq0
returns-then-u-eq0 g c =
    row-ends c.args.us.now c.loop-a.a c.index-us-a.result (omega arith) c.index-us-a.is _ c.loop-a.row (omega arith) c.loop-a.invariant.stand c.loop-a.invariant.seen

pub returns-after-loop-a : goal.returns-after-loop-a
returns-after-loop-a g c = row-full c.args.us.now c.loop-a.a _ c.loop-a.row (omega arith) c.loop-a.invariant.stand c.loop-a.invariant.seen
