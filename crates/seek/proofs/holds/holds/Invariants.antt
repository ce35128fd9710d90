use Rattle.std.proofs.Common.{◌≡◌, drop}
use Rattle.layers.specs.Calls.{arcs}
use Rattle.layers.specs.Net.{is_path_from}
use Rattle.seek.proofs.holds.holds.Given as goal

-- what is left of the doors is read along a path from here exactly if all of them are along one from the first node
abbrev pub invariant-loop-i : goal.invariant-loop-i
invariant-loop-i g l =
    let net = arcs l.n l.width l.nodes in is_path_from (drop l.i net) l.place (drop l.i l.doors) ≡ is_path_from net 0 l.doors
