-- What the reading form of a diagram is made of, for contracts.
use Rattle.std.specs.Prelude.{ℕ, List, Ok, Err, Result}
use Rattle.std.specs.Borrow.{Bor}
use Rattle.round.specs.declared.table.Round.{Round}
use Rattle.rules.specs.Rules.{RuleSense}
use Rattle.tallies.specs.Tallies.{TallySense}
use Rattle.layers.specs.declared.node.Node.{Node}
use Rattle.layers.specs.declared.refusal.Refusal.{Refusal}
use Rattle.layers.specs.Settings.{Setting, setting}
use Rattle.diagram.specs.declared.reading.ReadingForm.{ReadingForm}
use Rattle.diagram.specs.declared.room.Room.{Room}

module _ {S V : Type 0} where
  -- the diagram's round and width
  abbrev pub room_in : ReadingForm S V → Room
  room_in form = form.room

  -- the round alone
  abbrev pub round_in : ReadingForm S V → Round
  round_in form = form.room.round.now

  -- the width alone
  abbrev pub width_in : ReadingForm S V → ℕ
  width_in form = form.room.width

  -- the list of records
  abbrev pub records_in : ReadingForm S V → List (Node S V)
  records_in form = form.nodes.now

  -- what settled goes by: it is lent a rule that answers so; the tally has no say and may be any
  abbrev pub setting_in : ReadingForm S V → RuleSense S → TallySense V → Setting S V
  setting_in form rule tally = setting (round_in form) rule tally (width_in form)

  -- the records of a part of the list that is handed out, or the refusal
  abbrev pub handed_out : Result (Bor (List (Node S V))) Refusal → Result (List (Node S V)) Refusal
  handed_out (Ok part) = Ok part.now
  handed_out (Err refusal) = Err refusal
