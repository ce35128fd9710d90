-- What a call goes by.
use Rattle.std.specs.Prelude.{ℕ}
use Rattle.layers.specs.declared.setting.Setting as lent
use Rattle.round.specs.declared.table.Round.{Round}
use Rattle.rules.specs.Rules.{RuleSense}
use Rattle.tallies.specs.Tallies.{TallySense}

-- the round, the side rule and the tally, with states S and values V, and the width of the diagram
pub record Setting (S V : Type 0) : Type 0 where
  pub round : Round
  pub rule : RuleSense S
  pub tally : TallySense V
  pub width : ℕ

-- these four together
abbrev pub setting : {S V : Type 0} → Round → RuleSense S → TallySense V → ℕ → Setting S V
setting r rule tally W = record { round = r; rule = rule; tally = tally; width = W }

-- those that are lent to a call, where the rule and the tally answer so
abbrev pub lent_setting : {R T S V : Type 0} → lent.Setting R T → RuleSense S → TallySense V → Setting S V
lent_setting s rule tally = setting s.round.now rule tally s.width
