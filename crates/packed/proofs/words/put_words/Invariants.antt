-- The words before this one are written.
use Rattle.std.proofs.Common.{◌≡◌, take}
use Rattle.packed.specs.Words.{begun_with}
use Rattle.packed.proofs.words.put_words.Given as goal

abbrev pub invariant-loop-k : goal.invariant-loop-k
invariant-loop-k l = l.out ≡ begun_with (take l.k l.words) l.initial.out
