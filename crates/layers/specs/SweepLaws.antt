-- Refine's last sweep: whether it answers whole or full, it leaves nothing that a sweep takes out.
use Rattle.std.specs.Prelude.{◌≡◌, ℕ, ◌≤◌, List}
use Rattle.round.specs.declared.table.Round.{Round}
use Rattle.rules.specs.Rules.{RuleSense}
use Rattle.tallies.specs.Tallies.{TallySense}
use Rattle.layers.specs.declared.node.Node.{Node}
use Rattle.layers.specs.declared.call.Call.{Call}
use Rattle.layers.specs.Settings.{Setting, setting}
use Rattle.layers.specs.Calls.{sweep_answer, after_open, refinement, after_calls}

-- once these records are refined, whole or full, a sweep answers 0
abbrev pub RefineSweepsOut : {S V : Type 0} → Setting S V → List (Node S V) → Type 0
RefineSweepsOut by xs = sweep_answer by (refinement by xs).1 ≡ 0

-- so it is after every list of calls on these records
abbrev pub RefineSweepsOutFrom : {S V : Type 0} → Setting S V → List (Node S V) → Type 0
RefineSweepsOutFrom {S} {V} by xs = (cs : List (Call V)) → RefineSweepsOut by (after_calls by cs xs)

-- for one rule and one tally: every round that the rule serves, every width from 1 to 128, every lent list, once opened
abbrev pub RefineSweepsOutAlways : {S V : Type 0} → (ℕ → Type 0) → RuleSense S → TallySense V → Type 0
RefineSweepsOutAlways {S} {V} RuleServes rule tally =
    (r : Round) → RuleServes r.n → (W : ℕ) → 1 ≤ W → W ≤ 128 → (lent : List (Node S V))
    → let by = setting r rule tally W in RefineSweepsOutFrom by (after_open by lent)
