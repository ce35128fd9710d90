-- The round's diagram, opened on blank records by what answers as its rule and its tally.
use Rattle.std.proofs.Common.{◌≡◌, ℕ, replicate, refl, ap₂}
use Rattle.rules.specs.Sides.{SideState}
use Rattle.rules.specs.Rules.{RuleSense}
use Rattle.tallies.specs.Tallies.{TallySense}
use Rattle.layers.specs.declared.node.Node.{Node}
use Rattle.layers.specs.Settings.{setting}
use Rattle.layers.specs.Calls.{after_open}
use Rattle.labels.specs.Passes.{blank_node}
use Rattle.allowed.specs.Senses.{side_of, late_of}
use Rattle.diagram.specs.declared.room.Room.{Room}
use Rattle.packed.specs.Senses.{Recs, setting_for}
use Rattle.packed.specs.Sheets.{blank_records, opened_diagram}

module _ (room m : Room) (R : RuleSense SideState) (T : TallySense (ℕ × ℕ)) (here : m ≡ room) (side : R ≡ side_of room.round.now) (late : T ≡ late_of room.round.now) where
  pub setting-is : setting m.round.now R T m.width ≡ setting_for room.round.now room.width
  setting-is = rw (here, side, late) refl

  pub blank-is : (x : Node SideState (ℕ × ℕ)) → x ≡ blank_node R T → replicate 2049 x ≡ blank_records room.round.now
  unfolding blank_records
  blank-is x e = rw (e, side, late) refl

  pub opened-is : (x : Node SideState (ℕ × ℕ)) → x ≡ blank_node R T → after_open (setting m.round.now R T m.width) (replicate 2049 x) ≡ opened_diagram room.round.now room.width
  unfolding opened_diagram
  opened-is x e = ap₂ (λ by (xs : Recs). after_open by xs) setting-is (blank-is x e)
