-- What a sheet claims, in words of the round's allowed orders.
use Rattle.std.specs.Prelude.{◌≡◌, ◌≢◌, ℕ, List, Option, None, Some, slice_index, true}
use Rattle.doors.specs.Orders.{IsDoor}
use Rattle.doors.specs.Sets.{Has}
use Rattle.round.specs.declared.table.Round.{Round}
use Rattle.layers.specs.declared.refined.Refined.TheVariants.{Whole}
use Rattle.layers.specs.Claim.{StandsAhead}
use Rattle.refine.specs.Answers.{IsInnerIfFull}
use Rattle.allowed.specs.Orders.{IsAllowedOrder, late_cost, IsNotAbove}
use Rattle.round_sheet.specs.declared.sheet.Sheet.{Sheet}

-- the sets say that door i has to come ahead of door j
abbrev pub Must : List ℕ → ℕ → ℕ → Type 0
Must musts i j = Has (slice_index musts i) j

-- no allowed order undercuts the bound, and there is no bound only if no order is allowed
abbrev pub NoneUndercuts : Round → Option (ℕ × ℕ) → Type 0
NoneUndercuts r None = (w : List ℕ) → ¬ IsAllowedOrder r w
NoneUndercuts r (Some bound) = (w : List ℕ) → IsAllowedOrder r w → IsNotAbove bound (late_cost r w)

-- each must names two different doors of the round
abbrev pub MustsNameDoors : Round → List ℕ → Type 0
MustsNameDoors r musts = (i j : ℕ) → Must musts i j → IsDoor r.n i × IsDoor r.n j × (i ≢ j)

-- each must holds in every allowed order
abbrev pub MustsHold : Round → List ℕ → Type 0
MustsHold r musts = (i j : ℕ) → Must musts i j → (w : List ℕ) → IsAllowedOrder r w → StandsAhead i j w

-- the bound is what some allowed order costs, and there is no bound if no order is allowed
abbrev pub BoundIsReached : Round → Option (ℕ × ℕ) → Type 0
BoundIsReached r None = (w : List ℕ) → ¬ IsAllowedOrder r w
BoundIsReached r (Some bound) = (w : List ℕ) × IsAllowedOrder r w × (late_cost r w ≡ bound)

-- no must is missing: of two different doors with none, some allowed order has the second ahead of the first
abbrev pub NoMustMissing : Round → List ℕ → Type 0
NoMustMissing r musts =
    (i j : ℕ) → IsDoor r.n i → IsDoor r.n j → i ≢ j → ¬ Must musts i j
    → (w : List ℕ) × IsAllowedOrder r w × StandsAhead j i w

-- all that a sheet s of the round r claims: what is said above, the last two only if it is settled; that a refine which was whole
-- settles it; and that a layer which was full is an inner one
pub record SheetHolds (r : Round) (s : Sheet) : Type 0 where
  pub layer : IsInnerIfFull r.n s.refined
  pub none_undercuts : NoneUndercuts r s.bound
  pub musts_named : MustsNameDoors r s.musts
  pub musts_hold : MustsHold r s.musts
  pub whole_settles : s.refined ≡ Whole → s.settled ≡ true
  pub bound_reached : s.settled ≡ true → BoundIsReached r s.bound
  pub none_missing : s.settled ≡ true → NoMustMissing r s.musts
