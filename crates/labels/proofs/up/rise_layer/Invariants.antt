use Rattle.std.proofs.Common.{◌≡◌, ◌++◌, take, drop}
use Rattle.labels.specs.Passes.{renewed, risen}
use Rattle.labels.proofs.up.rise_layer.Given as goal

abbrev pub invariant-loop-u : goal.invariant-loop-u
invariant-loop-u g l = take l.u-index l.us ++ renewed (risen l.round l.vs) (drop l.u-index l.us) ≡ renewed (risen l.round l.vs) l.initial.us
