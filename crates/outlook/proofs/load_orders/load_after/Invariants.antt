-- The doors below j have been looked at.
use Rattle.std.proofs.Common.{◌≡◌, ◌+◌, ◌*◌}
use Rattle.std.specs.Prelude.{pos, ◌+ℤ◌, ◌≤ℤ◌}
use Rattle.outlook.proofs.LoadSums.{load_upto}
use Rattle.outlook.proofs.load_orders.load_after.Given as goal

abbrev pub invariant-loop-j : goal.invariant-loop-j
invariant-loop-j l = record {
  value : l.load ≡ load_upto l.round.load l.round.doors l.set l.j;
  low : pos 0 ≤ℤ (l.load +ℤ pos (128 * l.j));
  high : l.load ≤ℤ pos (65536 + 128 * l.j);
}
