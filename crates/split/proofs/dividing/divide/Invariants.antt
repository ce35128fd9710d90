use Rattle.std.proofs.Common.{◌≡◌, ◌-◌}
use Rattle.split.proofs.Divided.{IsSent}
use Rattle.split.proofs.dividing.divide.Given as goal

abbrev pub invariant-loop-m : goal.invariant-loop-m
invariant-loop-m g l =
    (l.list ≡ record l.initial.list { to = l.list.to })
    × IsSent (g.K.Test.keeps l.test) (l.t - 1) (l.new - 1) l.us l.initial.list l.m l.list.to
