use Rattle.std.proofs.Common.{get_or, ap, refl, arith, ◌∙◌}
use Rattle.std.proofs.lemmas.List.{length-set, length-map}
use Rattle.seek.specs.Rows.{none, view, views}
use Rattle.seek.proofs.Places.{row-ends, row-full, node_more, standing-some}
use Rattle.seek.proofs.Views.{views-start, views-set}
use Rattle.seek.proofs.walk.row_above.Goals as goal

pub loop-a-init : goal.loop-a-init
loop-a-init g c = record { long = refl; stand = refl; seen = λ i j. views-start i j 128 }

pub loop-a-preserved : goal.loop-a-preserved
loop-a-preserved g c =
    let us = c.args.us.now in
    let a = c.loop-a.a in
    let u = c.index-us-a.result in
    let row = c.loop-a.row in
    let inv = c.loop-a.invariant in
    record {
      long = length-set row a c.onward_from.result ∙ inv.long;
      stand = standing-some us a u (omega arith) c.index-us-a.is (omega arith) inv.stand;
      seen = λ i j t.
          ap (λ xs. get_or xs t none) (views-set i j a row c.onward_from.result)
          ∙ node_more us a u (omega arith) c.index-us-a.is _ (views i j row) (view i j c.onward_from.result) (omega (arith, length-map row (view i j), inv.long)) (c.onward_from.ensures i j) (inv.seen i j) t;
    }

pub returns-then-u-eq0 : goal.returns-then-u-eq0
returns-then-u-eq0 g c = λ i j.
    row-ends c.args.us.now c.loop-a.a c.index-us-a.result (omega arith) c.index-us-a.is _ (views i j c.loop-a.row) (omega arith) c.loop-a.invariant.stand (c.loop-a.invariant.seen i j)

pub returns-after-loop-a : goal.returns-after-loop-a
returns-after-loop-a g c = λ i j. row-full c.args.us.now c.loop-a.a _ (views i j c.loop-a.row) (omega arith) c.loop-a.invariant.stand (c.loop-a.invariant.seen i j)
