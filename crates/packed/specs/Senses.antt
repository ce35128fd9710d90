-- What the calls of a sheet go by: the side rules of the round, and late doors.
use Rattle.std.specs.Prelude.{ℕ, List}
use Rattle.round.specs.declared.table.Round.{Round}
use Rattle.rules.specs.Sides.{SideState, SideRule, side_sense}
use Rattle.tallies.specs.declared.late.LateDoors.{LateDoors}
use Rattle.tallies.specs.Late.{late_sense}
use Rattle.tallies.specs.Tallies.{TallySense}
use Rattle.layers.specs.declared.node.Node.{Node}
use Rattle.layers.specs.Settings.{Setting, setting}
use Rattle.diagram.specs.declared.diagram.Diagram.{Diagram}
use Rattle.diagram.specs.Words.{setting_of}
use Rattle.allowed.specs.Senses.{side_of, late_of}

-- the records of a diagram: a state is that of pairs, load and keepers together, a value is late doors and late minutes
abbrev pub Recs : Type 0
Recs = List (Node SideState (ℕ × ℕ))

-- what the calls on the round's diagram of width W go by
abbrev pub setting_for : Round → ℕ → Setting SideState (ℕ × ℕ)
setting_for r W = setting r (side_of r) (late_of r) W

-- what a tally of the code answers
abbrev pub doors_sense : LateDoors → TallySense (ℕ × ℕ)
doors_sense t = late_sense t.round.now.n t.round.now.doors

-- what a call on a diagram goes by to which these are lent
abbrev pub setting_by : Diagram SideState (ℕ × ℕ) → SideRule → LateDoors → Setting SideState (ℕ × ℕ)
setting_by d rule tally = setting_of d (side_sense rule) (doors_sense tally)
