use Rattle.std.proofs.Common.{◌≡◌, drop}
use Rattle.std.specs.List.{list_all}
use Rattle.filter.specs.Kept.{stays}
use Rattle.filter.proofs.quiet.nodes_stay.Given as goal

abbrev pub invariant-loop-a : goal.invariant-loop-a
invariant-loop-a g l = let p = stays (g.F.Test.goes l.at.test.now l.at.round.now) l.at.layer l.at.left l.at.next.now in list_all p (drop l.a l.us) ≡ list_all p l.us
