use Rattle.std.proofs.Common.{◌≡◌, ℕ, ◌<◌, ◌≤◌, length, get_or}
use Rattle.split.proofs.listing.find_starts.Given as goal

abbrev pub invariant-loop-m : goal.invariant-loop-m
invariant-loop-m l = (length l.list.starts ≡ 256) × (l.list ≡ record l.initial.list { starts = l.list.starts }) × ((i : ℕ) → i < l.m → get_or l.list.starts (get_or l.list.to i 0) 0 ≤ i)
