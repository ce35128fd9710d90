use Rattle.std.proofs.Common.{◌≡◌, drop}
use Rattle.std.specs.List.{flat_map}
use Rattle.layers.specs.Settings.{Setting}
use Rattle.split.specs.Listed.{told_from, written}
use Rattle.split.proofs.InArcs.{brings}
use Rattle.split.proofs.agreement.first_into.Given as goal

abbrev pub invariant-loop-m : goal.invariant-loop-m
invariant-loop-m g l = (by : Setting g.row.S.Denot g.row.V.Denot) → flat_map (brings by l.t) (drop l.m (told_from 0 (written l.us l.list))) ≡ flat_map (brings by l.t) (told_from 0 (written l.us l.list))
