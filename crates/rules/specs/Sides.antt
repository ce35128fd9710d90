-- The side rules of a round together: its pairs, its load and its keepers.
use Rattle.std.specs.Prelude.{ℕ, List}
use Rattle.round.specs.declared.table.Round.{Round}
use Rattle.rules.specs.declared.both.Both.{Both}
use Rattle.rules.specs.declared.keepers.Keepers.{Keepers}
use Rattle.rules.specs.declared.load.Interval.{Interval}
use Rattle.rules.specs.declared.load.Load.{Load}
use Rattle.rules.specs.declared.pairs.Pairs.{Pairs}
use Rattle.rules.specs.Boths.{both_sense}
use Rattle.rules.specs.Keepers.{IsSpaced, keepers_sense}
use Rattle.rules.specs.Loads.{IsWithinCap, load_sense}
use Rattle.rules.specs.Pairs.{IsOrdered, pairs_sense}
use Rattle.rules.specs.Rules.{RuleSense}

-- a state: the doors that have been, the least and the greatest load, and the possible last doors
abbrev pub SideState : Type 0
SideState = (ℕ × Interval) × ℕ

-- w keeps the pairs of round a, the load of round l and the keepers of round k
abbrev pub KeepsSides : Round → Round → Round → List ℕ → Type 0
KeepsSides a l k w = (IsOrdered a.ahead w × IsWithinCap l.load l.cap l.doors w) × IsSpaced k.keepers w

-- what the pairs of round a, the load of round l and the keepers of round k answer together
abbrev pub sides_by : Round → Round → Round → RuleSense SideState
sides_by a l k =
    both_sense (both_sense (pairs_sense a.n a.ahead) (load_sense l.n l.load l.cap l.doors)) (keepers_sense k.n k.keepers)

-- pairs, load and keepers, paired up in this order; each is lent a round
abbrev pub SideRule : Type 0
SideRule = Both (Both Pairs Load) Keepers

-- what they answer together: each goes by the round that it is lent
abbrev pub side_sense : SideRule → RuleSense SideState
side_sense b = sides_by b.first.first.round.now b.first.second.round.now b.second.round.now
