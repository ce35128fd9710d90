-- The doors below j have their sets.
use Rattle.std.proofs.Common.{◌≡◌, ℕ, ◌<◌, length, slice_index}
use Rattle.doors.specs.Sets.{has}
use Rattle.rules.specs.Keepers.{share_as_others}
use Rattle.rules.proofs.keepers.made.all_others.Given as goal

abbrev pub invariant-loop-j : goal.invariant-loop-j
invariant-loop-j l = (length l.others ≡ 17) × ((i k : ℕ) → k < l.j → has (slice_index l.others k) i ≡ share_as_others l.keepers i k)
