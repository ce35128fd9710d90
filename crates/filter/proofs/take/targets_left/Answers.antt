use Rattle.std.proofs.Common.{◌+◌, take, ap, ◌∙◌, arith}
use Rattle.std.proofs.lemmas.Grind.{common_steps}
use Rattle.std.proofs.lemmas.List.{length-set}
use Rattle.layers.specs.Targets.{with_targets, at_door}
use Rattle.labels.proofs.Redirects.{by_door, redirect-made}
use Rattle.filter.specs.Kept.{kept_to, kept_node}
use Rattle.filter.proofs.Doors.{written_more, written_all}
use Rattle.filter.proofs.take.targets_left.Goals as goal

pub door_left-requires-clause-k_bound : goal.door_left-requires-clause-k_bound
door_left-requires-clause-k_bound g c = let o = c.list_doors-many in rw c.from-k.ensures (grind (arith, common_steps, o.ensures.in_range c.loop-k.k-index))

pub door_left-requires-clause-is_leg : goal.door_left-requires-clause-is_leg
door_left-requires-clause-is_leg g c = c.legs-legs.ensures _ (door_left-requires-clause-k_bound g c)

pub loop-k-preserved : goal.loop-k-preserved
loop-k-preserved g c =
    let at = c.args.at.now in
    let u = c.args.u.now in
    let f = by_door (kept_to (g.F.Test.goes at.test.now at.round.now) at.layer at.left at.next.now u) u in
    let o = c.list_doors-many in
    record {
      done = rw c.door_left.ensures (written_more f (take o.result o.new.doors) c.loop-k.to c.loop-k.k-index _ c.from-k.ensures (rw c.from-k.ensures (grind (arith, common_steps, o.ensures.in_range c.loop-k.k-index, c.loop-k.invariant.long))) c.loop-k.invariant.done);
      long = length-set c.loop-k.to _ _ ∙ c.loop-k.invariant.long;
    }

pub returns : goal.returns
unfolding kept_node
returns g c =
    let at = c.args.at.now in
    let u = c.args.u.now in
    let F = kept_to (g.F.Test.goes at.test.now at.round.now) at.layer at.left at.next.now u in
    let o = c.list_doors-many in
    ap (with_targets u) (written_all (by_door F u) u.arcs.to _ c.loop-k.to c.loop-k.k-index o.ensures.listed (omega arith) c.loop-k.invariant.long (λ k e. ap (at_door F (k + 1)) e) c.loop-k.invariant.done) ∙ redirect-made F u
