use Rattle.std.proofs.Common.{◌≡◌, ℕ, ◌+◌, ◌*◌, ◌<◌, ◌≤◌, get_or}
use Rattle.tidying.specs.Counted.{arcs_within}
use Rattle.tidying.specs.Tidied.{renew_at}
use Rattle.tidying.proofs.tidy.renew_layer.Given as goal

abbrev pub invariant-loop-a : goal.invariant-loop-a
invariant-loop-a g l = record {
  done : (k : ℕ) → k < l.a → get_or l.us k l.blank ≡ renew_at l.blank l.from l.new l.initial.us k;
  rest : (k : ℕ) → l.a ≤ k → get_or l.us k l.blank ≡ get_or l.initial.us k l.blank;
  lost : l.lost + arcs_within l.us ≡ arcs_within l.initial.us;
  few : l.lost ≤ 16 * l.a;
}
