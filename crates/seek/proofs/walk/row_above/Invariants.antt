use Rattle.std.proofs.Common.{◌≡◌, ◌++◌, ℕ, drop, length, map, take}
use Rattle.layers.specs.Records.{nodes_in}
use Rattle.seek.specs.Rows.{by_first, views}
use Rattle.seek.proofs.Places.{IsRow}
use Rattle.seek.proofs.walk.row_above.Given as goal

abbrev pub invariant-loop-a : goal.invariant-loop-a
invariant-loop-a g l = record {
  long : length l.row ≡ 128;
  stand : nodes_in l.us ≡ take l.a l.us ++ nodes_in (drop l.a l.us);
  seen : (i j : ℕ) → IsRow (views i j l.row) (map (λ u. by_first i j (views i j l.below) u l.n) (take l.a l.us));
}
