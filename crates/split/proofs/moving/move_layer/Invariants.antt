use Rattle.std.proofs.Common.{◌≡◌, ◌-◌, ◌++◌, map, take, drop}
use Rattle.split.specs.Joined.{moved_node}
use Rattle.split.proofs.moving.move_layer.Given as goal

abbrev pub invariant-loop-x : goal.invariant-loop-x
invariant-loop-x g l = l.us ≡ map (moved_node (l.lo - 1) (l.hi - 1)) (take l.x-index l.initial.us) ++ drop l.x-index l.initial.us
