use Rattle.std.proofs.Common.{◌≡◌, fold}
use Rattle.std.specs.List.{range_with_len}
use Rattle.split.specs.Listed.{put_at}
use Rattle.split.proofs.dividing.put_back.Given as goal

abbrev pub invariant-loop-m : goal.invariant-loop-m
invariant-loop-m g l = l.us ≡ fold (put_at l.list) l.initial.us (range_with_len 0 l.m)
