use Rattle.std.proofs.Common.{◌≡◌, take, replicate}
use Rattle.tidying.proofs.tidy.blank_all.Given as goal

abbrev pub invariant-loop-x : goal.invariant-loop-x
invariant-loop-x g l = take l.x-index l.us ≡ replicate l.x-index l.z
