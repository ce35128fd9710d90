-- All allowed orders that come before the one to be looked at are listed, and no others; and each order is a greater number than the one before.
use Rattle.std.proofs.Common.{◌≡◌, ◌-◌, ◌^◌, take, drop, All}
use Rattle.std.specs.List.{range_with_len}
use Rattle.std.specs.List.Sorted.{IsPermutation}
use Rattle.lister.specs.Listed.{IsGood, listed_orders}
use Rattle.lister.proofs.Rank.{rank}
use Rattle.lister.proofs.SoFar.{SoFar}
use Rattle.lister.proofs.list.list.Given as goal

abbrev pub invariant-loop-allowed : goal.invariant-loop-allowed
invariant-loop-allowed g l = record {
  reordered : IsPermutation (range_with_len 1 l.round.n) (take l.round.n l.doors);
  later : drop l.round.n l.doors ≡ drop l.round.n (range_with_len 1 16);
  good : g.R.Rule.serves l.rule l.round.n → All (IsGood l.round (g.R.Rule.keeps l.rule) (g.T.Tally.sense l.tally)) l.allowed.items;
  so_far : g.R.Rule.serves l.rule l.round.n → SoFar l.round (g.R.Rule.keeps l.rule) (take l.round.n l.doors) (listed_orders l.round.n l.allowed.items);
}

abbrev pub decreases-loop-allowed : goal.decreases-loop-allowed
decreases-loop-allowed g l = 17 ^ l.round.n - rank (take l.round.n l.doors)
