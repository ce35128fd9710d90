use Rattle.std.proofs.Common.{◌≡◌, ℕ, get_or}
use Rattle.doors.specs.Orders.{IsDoor}
use Rattle.outlook.proofs.Ways.{IsEarliestWithin}
use Rattle.outlook.proofs.earliest.earliest_finishes.Given as goal

abbrev pub invariant-loop : goal.invariant-loop
invariant-loop l = record {
  doors : IsEarliestWithin l.round l.counter l.ends;
  others : (j : ℕ) → (¬ IsDoor l.round.n j) → get_or l.ends j 0 ≡ 0;
}
