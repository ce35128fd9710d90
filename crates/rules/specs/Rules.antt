-- What a side rule is: five functions, a meaning, and laws that tie them.
use Rattle.std.specs.Prelude.{◌≡◌, ℕ, Bool, true, false, List, [], ◌∷◌, ◌++◌, fold}
use Rattle.doors.specs.Orders.{IsDoor, IsPartOrder, CanFollow}

-- what the functions of a rule answer
pub record RuleSense (S : Type 0) : Type 0 where
  pub start : S
  pub step : S → ℕ → S
  pub cover : S → S → S
  pub bars : S → ℕ → Bool
  pub same : S → S → Bool

-- the state that a part order leads to, door by door from the start
abbrev pub state_of : {S : Type 0} → RuleSense S → List ℕ → S
state_of R w = fold R.step R.start w

-- The laws, for rounds of n doors: Keeps says which part orders keep the rule, and Stands which part orders a state stands for.
pub record RuleLaws {S : Type 0} (n : ℕ) (R : RuleSense S) (Keeps : List ℕ → Type 0) (Stands : S → List ℕ → Type 0) : Type 0 where
  -- the rule is kept before the first door, and up to any door of a part order that keeps it
  pub keeps_none : Keeps []
  pub keeps_front : (w v : List ℕ) → IsPartOrder n (w ++ v) → Keeps (w ++ v) → Keeps w
  -- start stands for the empty part order
  pub start_stands : Stands R.start []
  -- if s stands for w, then step(s, j) for w followed by j
  pub step_stands : (s : S) (w : List ℕ) (j : ℕ) → CanFollow n w j → Stands s w → Stands (R.step s j) (w ++ j ∷ [])
  -- what either state stands for, their cover stands for too; a state covers itself
  pub cover_left : (s t : S) (w : List ℕ) → IsPartOrder n w → Stands s w → Stands (R.cover s t) w
  pub cover_right : (s t : S) (w : List ℕ) → IsPartOrder n w → Stands t w → Stands (R.cover s t) w
  pub cover_same : (s : S) → R.cover s s ≡ s
  -- a door is barred at a state only if it breaks the rule behind all that the state stands for
  pub bars_breaks : (s : S) (w : List ℕ) (j : ℕ) → CanFollow n w j → Stands s w → R.bars s j ≡ true → ¬ Keeps (w ++ j ∷ [])
  -- what the state of w itself does not bar keeps the rule
  pub clear_keeps : (w : List ℕ) (j : ℕ) → CanFollow n w j → Keeps w → R.bars (state_of R w) j ≡ false → Keeps (w ++ j ∷ [])
  -- same is yes exactly for equal states
  pub same_is : (s t : S) → R.same s t ≡ true → s ≡ t
  pub same_self : (s : S) → R.same s s ≡ true
  -- a number that is no door of the round changes no state and is not barred
  pub outside_step : (s : S) (j : ℕ) → ¬ IsDoor n j → R.step s j ≡ s
  pub outside_bars : (s : S) (j : ℕ) → ¬ IsDoor n j → R.bars s j ≡ false

-- The answer b, to whether j is barred after w, is yes exactly when w followed by j breaks the rule.
pub record IsExact (Keeps : List ℕ → Type 0) (w : List ℕ) (j : ℕ) (b : Bool) : Type 0 where
  pub yes_breaks : b ≡ true → ¬ Keeps (w ++ j ∷ [])
  pub breaks_yes : ¬ Keeps (w ++ j ∷ []) → b ≡ true
