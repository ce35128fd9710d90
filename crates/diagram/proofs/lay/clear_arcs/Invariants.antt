use Rattle.std.proofs.Common.{◌≡◌, ◌++◌, map, take, drop}
use Rattle.diagram.specs.Opening.{no_door, with_arcs}
use Rattle.diagram.proofs.lay.clear_arcs.Given as goal

abbrev pub invariant-loop-u : goal.invariant-loop-u
invariant-loop-u g l = l.us ≡ map (with_arcs no_door) (take l.u-index l.initial.us) ++ drop l.u-index l.initial.us
