-- The doors below i are looked at.
use Rattle.std.proofs.Common.{◌≡◌, ℕ, ◌&&◌, nat_lt}
use Rattle.doors.specs.Sets.{has}
use Rattle.rules.specs.Keepers.{share_as_others}
use Rattle.rules.proofs.keepers.made.others_of.Given as goal

abbrev pub invariant-loop-i : goal.invariant-loop-i
invariant-loop-i l = (k : ℕ) → has l.set k ≡ (nat_lt k l.i && share_as_others l.keepers k l.j)
