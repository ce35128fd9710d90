use Rattle.std.proofs.Common.{◌≡◌, true, take}
use Rattle.split.specs.Listed.{told_from, written, all_stay}
use Rattle.split.proofs.dividing.first_leaving.Given as goal

abbrev pub invariant-loop-m : goal.invariant-loop-m
invariant-loop-m g l = all_stay (g.K.Test.keeps l.test) l.t (take l.m (told_from 0 (written l.us l.list))) ≡ true
