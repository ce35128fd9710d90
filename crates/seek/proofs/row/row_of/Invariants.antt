use Rattle.std.proofs.Common.{◌≡◌, ◌++◌, drop, length, map, take}
use Rattle.layers.specs.Records.{nodes_in}
use Rattle.seek.specs.Rows.{by_first}
use Rattle.seek.proofs.Places.{IsRow}
use Rattle.seek.proofs.row.row_of.Given as goal

abbrev pub invariant-loop-a : goal.invariant-loop-a
invariant-loop-a g l = record {
  long : length l.row ≡ 256;
  stand : nodes_in l.us ≡ take l.a l.us ++ nodes_in (drop l.a l.us);
  seen : IsRow l.row (map (λ u. by_first l.i l.j l.below u l.n) (take l.a l.us));
}
