-- What a diagram is made of, for contracts.
use Rattle.std.specs.Prelude.{ℕ, List}
use Rattle.round.specs.declared.table.Round.{Round}
use Rattle.rules.specs.Rules.{RuleSense}
use Rattle.tallies.specs.Tallies.{TallySense}
use Rattle.layers.specs.declared.node.Node.{Node}
use Rattle.layers.specs.Settings.{Setting, setting}
use Rattle.diagram.specs.declared.diagram.Diagram.{Diagram}
use Rattle.diagram.specs.declared.room.Room.{Room}

module _ {S V : Type 0} where
  -- its round and its width
  abbrev pub room_of : Diagram S V → Room
  room_of d = d.room

  -- the round alone
  abbrev pub round_of : Diagram S V → Round
  round_of d = d.room.round.now

  -- the width alone
  abbrev pub width_of : Diagram S V → ℕ
  width_of d = d.room.width

  -- the lent list, as it stands
  abbrev pub records_of : Diagram S V → List (Node S V)
  records_of d = d.nodes.now

  -- what a call goes by to which a rule and a tally are lent that answer so
  abbrev pub setting_of : Diagram S V → RuleSense S → TallySense V → Setting S V
  setting_of d rule tally = setting (round_of d) rule tally (width_of d)
