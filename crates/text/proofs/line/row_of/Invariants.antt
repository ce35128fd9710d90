use Rattle.std.proofs.Common.{◌≡◌, ◌+◌, ◌-◌, length, replicate}
use Rattle.text.specs.Lines.{fields_of, row_from}
use Rattle.text.proofs.line.row_of.Given as goal

abbrev pub invariant-loop-to : goal.invariant-loop-to
invariant-loop-to l = record {
  room : length l.row ≡ 17;
  same : row_from (l.n + 1 - l.to) l.from l.to l.line.number (fields_of l.line) l.row ≡ row_from l.n l.from 1 l.line.number (fields_of l.line) (replicate 17 0);
}
