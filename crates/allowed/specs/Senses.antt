-- What the side rules of a round together, and its tally of late doors, answer.
use Rattle.std.specs.Prelude.{ℕ}
use Rattle.round.specs.declared.table.Round.{Round}
use Rattle.rules.specs.Rules.{RuleSense}
use Rattle.rules.specs.Sides.{SideState, sides_by}
use Rattle.tallies.specs.Late.{late_sense}
use Rattle.tallies.specs.Tallies.{TallySense}

-- its pairs, its load and its keepers
abbrev pub side_of : Round → RuleSense SideState
side_of r = sides_by r r r

-- a value is late doors, and late minutes
abbrev pub late_of : Round → TallySense (ℕ × ℕ)
late_of r = late_sense r.n r.doors
