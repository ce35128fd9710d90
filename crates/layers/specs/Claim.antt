-- The claim: only what a ceiling rules out can go missing, and once the diagram is settled nothing false is left in it.
use Rattle.std.specs.Prelude.{◌≡◌, ℕ, ◌≤◌, Bool, true, false, ◌&&◌, ◌⊎◌, List, [], ◌∷◌, Some, None, ◌==◌, ◌≢◌}
use Rattle.doors.specs.Orders.{StandsIn, IsDoor}
use Rattle.round.specs.declared.table.Round.{Round}
use Rattle.rules.specs.Rules.{RuleSense}
use Rattle.tallies.specs.Tallies.{TallySense}
use Rattle.orders.specs.Allowed.{IsAllowed}
use Rattle.orders.specs.Costs.{cost}
use Rattle.layers.specs.declared.node.Node.{Node}
use Rattle.layers.specs.declared.refined.Refined.TheVariants.{Whole}
use Rattle.layers.specs.Net.{PathFrom}
use Rattle.layers.specs.declared.call.Call.{Call}
use Rattle.layers.specs.Settings.{Setting, setting}
use Rattle.layers.specs.Calls.{EachCut, arcs, labels, records_with, in_arcs_agree, sweep_answer, after_open, refinement, after_calls, bound, must, is_settled}

-- i stands ahead of j in w
abbrev pub StandsAhead : ℕ → ℕ → List ℕ → Type 0
StandsAhead i j [] = ⊥
StandsAhead i j (k ∷ w) = ((i ≡ k) × StandsIn j w) ⊎ StandsAhead i j w

-- some path of the diagram of n doors and width W in these records has the doors of w, from its first node on
abbrev pub IsPath : {S V : Type 0} → ℕ → ℕ → List (Node S V) → List ℕ → Type 0
IsPath n W xs w = PathFrom (arcs n W xs) 0 w

-- what the answer b to must(i, j) says of the paths: j stands at an earlier place than i on none, or on this one
pub record MustMeans {S V : Type 0} (n W i j : ℕ) (xs : List (Node S V)) (b : Bool) : Type 0 where
  pub yes : b ≡ true → (w : List ℕ) → IsPath n W xs w → StandsAhead j i w → ⊥
  pub no' : b ≡ false → (w : List ℕ) × IsPath n W xs w × StandsAhead j i w

-- of the records xs, which the calls cs left
module _ {S V : Type 0} (by : Setting S V) (Keeps : List ℕ → Type 0) (cs : List (Call V)) where
  -- an allowed order that no ceiling rules out: its cost is above none of them
  abbrev pub Wanted : List ℕ → Type 0
  Wanted w = IsAllowed by.round Keeps w × EachCut (λ c. by.tally.not_above (cost by.round by.tally w) c ≡ true) cs

  -- what holds at any time
  pub record NothingLost (xs : List (Node S V)) : Type 0 where
    -- every wanted order is a path
    pub still : (w : List ℕ) → Wanted w → IsPath by.round.n by.width xs w
    -- no wanted order costs less than the bound
    pub low : (w : List ℕ) (v : V) → Wanted w → bound by.round.n by.width xs ≡ Some v → by.tally.not_above v (cost by.round by.tally w) ≡ true
    -- if there is none, no order is wanted
    pub low_none : bound by.round.n by.width xs ≡ None → (w : List ℕ) → Wanted w → ⊥
    -- if i must be ahead of j, it is so in every wanted order
    pub must_yes : (i j : ℕ) → IsDoor by.round.n i → IsDoor by.round.n j → (i ≢ j) → must by.round.n by.width i j xs ≡ true → (w : List ℕ) → Wanted w → StandsAhead i j w

  -- what holds of a settled diagram
  pub record NothingFalse (xs : List (Node S V)) : Type 0 where
    -- every path is an allowed order
    pub allowed : (w : List ℕ) → IsPath by.round.n by.width xs w → IsAllowed by.round Keeps w
    -- the bound is the cost of a path, and not above that of any
    pub least : (v : V) → bound by.round.n by.width xs ≡ Some v → (w : List ℕ) × IsPath by.round.n by.width xs w × (cost by.round by.tally w ≡ v)
    pub least_of : (v : V) → bound by.round.n by.width xs ≡ Some v → (w : List ℕ) → IsPath by.round.n by.width xs w → by.tally.not_above v (cost by.round by.tally w) ≡ true
    -- there is none only if there is no path
    pub least_none : bound by.round.n by.width xs ≡ None → (w : List ℕ) → IsPath by.round.n by.width xs w → ⊥
    -- if i need not be ahead of j, some path has j ahead of i
    pub must_no : (i j : ℕ) → must by.round.n by.width i j xs ≡ false → (w : List ℕ) × IsPath by.round.n by.width xs w × StandsAhead j i w

  -- nothing is lost at any time, and nothing is false once the diagram is settled
  pub record ClaimHolds (xs : List (Node S V)) : Type 0 where
    pub nothing_lost : NothingLost xs
    pub nothing_false : is_settled by xs ≡ true → NothingFalse xs

-- for one rule and one tally: every round that both serve, every width from 1 to 128, every lent list, every list of calls after opening
abbrev pub ClaimAlwaysHolds : {S V : Type 0} → (ℕ → Type 0) → RuleSense S → (List ℕ → Type 0) → (ℕ → Type 0) → TallySense V → Type 0
ClaimAlwaysHolds {S} {V} RuleServes rule Keeps TallyServes tally =
    (r : Round) → RuleServes r.n → TallyServes r.n → (W : ℕ) → 1 ≤ W → W ≤ 128 → (lent : List (Node S V)) (cs : List (Call V))
    → let by = setting r rule tally W in ClaimHolds by Keeps cs (after_calls by cs (after_open by lent))

-- the labels that stand: after every list of calls the records are the arcs read off them, labelled anew, and later places are those lent
abbrev pub LabelsStand : {S V : Type 0} → (ℕ → Type 0) → RuleSense S → TallySense V → Type 0
LabelsStand {S} {V} RuleServes rule tally =
    (r : Round) → RuleServes r.n → (W : ℕ) → 1 ≤ W → W ≤ 128 → (lent : List (Node S V)) (cs : List (Call V))
    → let by = setting r rule tally W in let xs = after_calls by cs (after_open by lent) in xs ≡ records_with by lent (arcs r.n W xs)

-- settled is yes exactly when the in-arcs of each node agree and a sweep would take out nothing
abbrev pub SettledMeans : {S V : Type 0} → (ℕ → Type 0) → RuleSense S → TallySense V → Type 0
SettledMeans {S} {V} RuleServes rule tally =
    (r : Round) → RuleServes r.n → (W : ℕ) → 1 ≤ W → W ≤ 128 → (lent : List (Node S V)) (cs : List (Call V))
    → let by = setting r rule tally W in let xs = after_calls by cs (after_open by lent) in
    is_settled by xs ≡ (in_arcs_agree by (arcs r.n W xs) (labels r.n W xs) && sweep_answer by xs == 0)

-- refine of these records that answers whole leaves the diagram settled
abbrev pub WholeSettles : {S V : Type 0} → Setting S V → List (Node S V) → Type 0
WholeSettles by xs = (refinement by xs).0 ≡ Whole → is_settled by (refinement by xs).1 ≡ true

-- so after every list of calls
abbrev pub WholeSettlesAlways : {S V : Type 0} → (ℕ → Type 0) → RuleSense S → TallySense V → Type 0
WholeSettlesAlways {S} {V} RuleServes rule tally =
    (r : Round) → RuleServes r.n → (W : ℕ) → 1 ≤ W → W ≤ 128 → (lent : List (Node S V)) (cs : List (Call V))
    → let by = setting r rule tally W in WholeSettles by (after_calls by cs (after_open by lent))
