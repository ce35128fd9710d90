-- What is said of the load of a round.
use Rattle.std.specs.Prelude.{ℕ, List}
use Rattle.round.specs.declared.table.Round.{Round}
use Rattle.rules.specs.Loads.{IsWithinCap}
use Rattle.allowed.specs.Orders.{IsFullOrder}
use Rattle.outlook.specs.LoadOrders.{KeepsLoad}
use Rattle.outlook.specs.declared.outlook.LoadOutlook.{LoadOutlook}
use Rattle.outlook.specs.declared.outlook.LoadOutlook.TheVariants.{Never, NotWithPairs, Kept}

-- w has each door of the round once, and the van holds 0 to cap key boxes after every door; pairs have no part in it
pub record KeepsLoadAlone (r : Round) (w : List ℕ) : Type 0 where
  pub full : IsFullOrder r w
  pub within : IsWithinCap r.load r.cap r.doors w

-- no order keeps the load; or some does, but none that keeps the pairs too; or this one keeps both
abbrev pub LoadMeans : Round → LoadOutlook → Type 0
LoadMeans r Never = (w : List ℕ) → ¬ KeepsLoadAlone r w
LoadMeans r NotWithPairs = ((w : List ℕ) × KeepsLoadAlone r w) × ((w : List ℕ) → ¬ KeepsLoad r r.ahead w)
LoadMeans r (Kept v) = KeepsLoad r r.ahead v.items
