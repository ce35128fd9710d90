use Rattle.std.proofs.Common.{◌≡◌, ◌+◌, ◌*◌, ◌≤◌, ◌++◌, map, take, drop}
use Rattle.tidying.specs.Counted.{arcs_within}
use Rattle.filter.specs.Kept.{kept_node}
use Rattle.filter.proofs.take.thin_nodes.Given as goal

abbrev pub invariant-loop-u : goal.invariant-loop-u
invariant-loop-u g l = record {
  done : l.us ≡ map (kept_node (g.F.Test.goes l.at.test.now l.at.round.now) l.at.layer l.at.left l.at.next.now) (take l.u-index l.initial.us) ++ drop l.u-index l.initial.us;
  rest : drop l.u-index l.us ≡ drop l.u-index l.initial.us;
  gone : l.gone + arcs_within l.us ≡ arcs_within l.initial.us;
  none : l.gone ≡ 0 → l.us ≡ l.initial.us;
  few : l.gone ≤ 16 * l.u-index;
}
