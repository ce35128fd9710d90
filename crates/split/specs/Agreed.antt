-- Which in-arcs of a node stay when it is parted, as the code looks at them: those that agree with the first.
-- Nobody has to believe these steps: `words` of `part`, of `part_layer` and of `agreed` say what they come to.
use Rattle.std.specs.Prelude.{ℕ, Bool, ◌&&◌, ◌==◌, bit_or, Some, None, Option}
use Rattle.round.specs.declared.table.Round.{Round}
use Rattle.rules.specs.Rules.{RuleSense}
use Rattle.layers.specs.declared.node.Down.{Down}
use Rattle.layers.specs.Settings.{Setting}
use Rattle.layers.specs.Labels.{bit_of, arrival_finish, arrival_over}
use Rattle.split.specs.declared.source.Source.{Source}

-- what comes by door j from a node with the label l agrees with what comes from s, which comes by that door
abbrev pub kept_there : {S V : Type 0} → Round → RuleSense S → Source S V → Down S V → ℕ → Bool
kept_there r rule s l j =
    bit_or s.label.all (bit_of j) == bit_or l.all (bit_of j)
    && (bit_or s.label.some (bit_of j) == bit_or l.some (bit_of j)
    && (rule.same (rule.step s.label.state j) (rule.step l.state j)
    && arrival_finish r s.label s.door == arrival_finish r l j))

-- the same of what comes from s by any door
unfoldable pub kept_by : {S V : Type 0} → Round → RuleSense S → Source S V → Down S V → ℕ → Bool
kept_by r rule s l j = s.door == j && kept_there r rule s l j

module _ {S V : Type 0} (by : Setting S V) where
  -- what comes over the arc of a source
  unfoldable pub brought : Source S V → Down S V
  unfolding arrival_over
  brought s = arrival_over by s.label s.door

  abbrev pub brought_first : Option (Source S V) → Option (Down S V)
  brought_first None = None
  brought_first (Some s) = Some (brought s)
