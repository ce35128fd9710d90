-- The sets of the first j numbers stand.
use Rattle.std.proofs.Common.{ℕ, ◌<◌, slice_index, ◌↔◌}
use Rattle.doors.specs.Sets.{Has}
use Rattle.outlook.specs.Chains.{IsChained}
use Rattle.outlook.proofs.chains.doors_ahead.Given as goal

abbrev pub invariant-loop-j : goal.invariant-loop-j
invariant-loop-j l = (i k : ℕ) → k < l.j → Has (slice_index l.set-items k) i ↔ IsChained l.ahead i k
