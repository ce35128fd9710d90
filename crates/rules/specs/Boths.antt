-- Two rules together: the two states side by side; barred if either bars.
use Rattle.std.specs.Prelude.{◌&&◌, ◌||◌}
use Rattle.rules.specs.Rules.{RuleSense}

-- what the two rules answer together
abbrev pub both_sense : {S U : Type 0} → RuleSense S → RuleSense U → RuleSense (S × U)
both_sense A B = record {
  start = (A.start, B.start);
  step = λ s j. (A.step s.0 j, B.step s.1 j);
  cover = λ s t. (A.cover s.0 t.0, B.cover s.1 t.1);
  bars = λ s j. A.bars s.0 j || B.bars s.1 j;
  same = λ s t. A.same s.0 t.0 && B.same s.1 t.1;
}
