use borrow.Author.Rules.{scaled_fits≤}
use Rattle.std.proofs.Common.{length, rules, ◌+◌, true, false, get_or, arith}
use Rattle.filter.proofs.Doors.{left_here, left_none, left_past}
use Rattle.filter.proofs.take.door_left.Goals as goal
use Rattle.filter.proofs.take.door_left.Goals.{then-t-eq0-via-then-t-eq0, then-t-eq0-via-else-t-eq0+then-t-at}

pub returns-then-takes_out : goal.returns-then-takes_out
returns-then-takes_out g c =
    let at = c.args.at.now in
    left_here (g.F.Test.goes at.test.now at.round.now) at.layer at.left at.next.now c.args.u.now (c.args.k + 1) (get_or c.args.u.now.arcs.to c.args.k 0) true c.index-at-t.result (omega arith) (omega arith) c.if-takes_out.ensures

pub returns-else-takes_out : goal.returns-else-takes_out
returns-else-takes_out g c =
    let at = c.args.at.now in
    left_here (g.F.Test.goes at.test.now at.round.now) at.layer at.left at.next.now c.args.u.now (c.args.k + 1) (get_or c.args.u.now.arcs.to c.args.k 0) false c.index-at-t.result (omega arith) (omega arith) c.if-takes_out.ensures

pub returns-then-t-eq0 : goal.returns-then-t-eq0
returns-then-t-eq0 g c = elim c.then-t-eq0.branch [
  | then-t-eq0-via-then-t-eq0 w ↦ grind (arith, left_none)
  | then-t-eq0-via-else-t-eq0+then-t-at w ↦ grind (arith, left_past)
]

pub offset_bounds-at-t : goal.offset_bounds-at-t
offset_bounds-at-t g c = scaled_fits≤ _ (length c.args.at.now.next.now) _ (omega arith) (search rules)
