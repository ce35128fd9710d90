-- What a sheet of a round has, read off the round's diagram of width 16 once it is refined.
use Rattle.std.specs.Prelude.{ℕ, ◌+◌, ◌*◌, List}
use Rattle.allowed.specs.Senses.{side_of, late_of}
use Rattle.round.specs.declared.table.Round.{Round}
use Rattle.rules.specs.Sides.{SideState}
use Rattle.layers.specs.declared.node.Node.{Node}
use Rattle.layers.specs.declared.refined.Refined.{Refined}
use Rattle.layers.specs.Settings.{Setting, setting}
use Rattle.layers.specs.Calls.{after_open, refinement, bound, is_settled}
use Rattle.diagram.specs.Musts.{musts}
use Rattle.round_sheet.specs.declared.sheet.Sheet.{Sheet}

-- the records of the diagram: a state is that of pairs, load and keepers together, a value is late doors and late minutes
abbrev pub Records : Type 0
Records = List (Node SideState (ℕ × ℕ))

-- how many records the diagram of a round takes
abbrev pub places_of : Round → ℕ
places_of r = r.n * 16 + 1

-- what its calls go by: pairs, load and keepers together, late doors, and width 16
abbrev pub setting_for : Round → Setting SideState (ℕ × ℕ)
setting_for r = setting r (side_of r) (late_of r) 16

-- the round's diagram as it is opened on a lent list
abbrev pub opened_for : Round → Records → Records
opened_for r xs = after_open (setting_for r) xs

-- what refine answers there, and the records that it leaves
abbrev pub refined_for : Round → Records → Refined × Records
refined_for r xs = refinement (setting_for r) (opened_for r xs)

-- the sheet: what the refined diagram answers
abbrev pub sheet_of : Round → Records → Sheet
sheet_of r xs =
    let p = refined_for r xs in
    record {
      bound = bound r.n 16 p.1;
      refined = p.0;
      settled = is_settled (setting_for r) p.1;
      musts = musts r.n 16 p.1;
    }
