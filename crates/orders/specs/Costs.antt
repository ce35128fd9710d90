-- What a list of doors costs: the tally's start, stepped with the true legs and finishes.
use Rattle.std.specs.Prelude.{ℕ, List, fold}
use Rattle.round.specs.declared.table.Round.{Round}
use Rattle.round.specs.Clock.{drive}
use Rattle.tallies.specs.Tallies.{TallySense}
use Rattle.orders.specs.declared.van.Van.{Van}
use Rattle.orders.specs.Times.{yard, next_van}

-- the van, and what its way has cost so far
pub record Trip (V : Type 0) : Type 0 where
  pub van : Van
  pub cost : V

-- one door more
abbrev pub next_trip : {V : Type 0} → Round → TallySense V → Trip V → ℕ → Trip V
next_trip r T t j =
    let a = next_van r t.van j in
    record { van = a; cost = T.step t.cost j (drive r t.van.last j) a.finish }

-- the van, and what its way has cost, after the doors of w
abbrev pub trip_after : {V : Type 0} → Round → TallySense V → List ℕ → Trip V
trip_after r T w = fold (next_trip r T) (record { van = yard; cost = T.start }) w

-- what the doors of w cost, from the yard to the last
abbrev pub cost : {V : Type 0} → Round → TallySense V → List ℕ → V
cost r T w = (trip_after r T w).cost
