-- What is said of a part order: allowed, incomplete, or its first fault.
use Rattle.std.specs.Prelude.{◌≡◌, ℕ, ◌<◌, ◌≤◌, if◌then◌else◌, List, [], ◌∷◌, ◌++◌, length, ◌==◌, nat_lt}
use Rattle.round.specs.declared.table.Round.{Round}
use Rattle.round.specs.Clock.{door}
use Rattle.rules.specs.Rules.{RuleSense}
use Rattle.orders.specs.declared.van.Van.{Van}
use Rattle.orders.specs.declared.verdict.Verdict as verdicts
use Rattle.orders.specs.declared.verdict.Verdict.TheVariants as is
use Rattle.orders.specs.Allowed.{IsAllowed}
use Rattle.orders.specs.Times.{yard, next_van, finish_of, KeepsHours}

-- going on through w from the van a with the rule's state s: a door's closing is looked at ahead of the rule
abbrev pub verdict_from : {S : Type 0} → Round → RuleSense S → Van → S → List ℕ → verdicts.Verdict
verdict_from r R a s [] = is.Allowed
verdict_from r R a s (j ∷ w) =
    if nat_lt (door r j).closes (next_van r a j).finish then is.Closes j
    else (if R.bars s j then is.Breaks j else verdict_from r R (next_van r a j) (R.step s j) w)

-- what is said of w: incomplete, or what is found on the way from the yard
abbrev pub verdict : {S : Type 0} → Round → RuleSense S → List ℕ → verdicts.Verdict
verdict r R w = if length w == r.n then verdict_from r R yard R.start w else is.Incomplete

-- the first fault of w is at door j: the doors ahead of it are all in order, and after them j is wrong
pub record HasFault (r : Round) (Keeps : List ℕ → Type 0) (w : List ℕ) (j : ℕ) (Wrong : List ℕ → Type 0) : Type 0 where
  pub ahead : List ℕ
  pub rest : List ℕ
  pub split : w ≡ ahead ++ j ∷ rest
  pub timely : KeepsHours r ahead
  pub keeps : Keeps ahead
  pub wrong : Wrong ahead

-- what a verdict on w means
abbrev pub VerdictMeans : Round → (List ℕ → Type 0) → List ℕ → verdicts.Verdict → Type 0
VerdictMeans r Keeps w is.Allowed = IsAllowed r Keeps w
VerdictMeans r Keeps w is.Incomplete = ¬ (length w ≡ r.n)
VerdictMeans r Keeps w (is.Closes j) = HasFault r Keeps w j (λ u. (door r j).closes < finish_of r (u ++ j ∷ []))
VerdictMeans r Keeps w (is.Breaks j) = HasFault r Keeps w j (λ u. (finish_of r (u ++ j ∷ []) ≤ (door r j).closes) × (¬ Keeps (u ++ j ∷ [])))
