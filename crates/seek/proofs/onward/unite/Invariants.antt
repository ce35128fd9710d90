-- The sets below j have been united, and the others are as they were.
use Rattle.std.proofs.Common.{◌≡◌, ℕ, ◌<◌, ◌≤◌, bit_or, slice_index}
use Rattle.seek.proofs.onward.unite.Given as goal

abbrev pub invariant-loop-j : goal.invariant-loop-j
invariant-loop-j l =
    ((q : ℕ) → q < l.j → slice_index l.sets q ≡ bit_or (slice_index l.fn.sets q) (slice_index l.more q))
    × ((q : ℕ) → l.j ≤ q → slice_index l.sets q ≡ slice_index l.fn.sets q)
