use Rattle.std.proofs.Common.{◌≡◌, ◌≤◌, drop}
use Rattle.tidying.specs.Tidied.{numbered, numbering}
use Rattle.tidying.proofs.tidy.number_layer.Given as goal

abbrev pub invariant-loop-a : goal.invariant-loop-a
invariant-loop-a g l = record {
  rest : numbered l.new l.count l.a (drop l.a l.us) ≡ numbering l.us;
  few : l.count ≤ l.a;
}
