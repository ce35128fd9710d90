use Rattle.std.proofs.Common.{◌≡◌, ◌-◌, ◌≤◌, take}
use Rattle.layers.specs.Settings.{lent_setting}
use Rattle.split.specs.Listed.{IsListed, told_records}
use Rattle.split.specs.Steps.{node_count, parts_from}
use Rattle.split.proofs.parting.part_listed.Given as goal

abbrev pub invariant-loop-a : goal.invariant-loop-a
invariant-loop-a g l =
    let by = lent_setting l.by (g.R.Rule.sense l.by.rule.now) (g.T.Tally.sense l.by.tally.now) in
    (l.count ≤ by.width)
    × (parts_from by 0 (by.width - l.a) l.a l.count (told_records by.width l.list l.nodes)
    ≡ parts_from by 0 by.width 0 (node_count by.width by.width l.initial.nodes) (told_records by.width l.initial.list l.initial.nodes))
    × IsListed (take by.width l.nodes) l.list
