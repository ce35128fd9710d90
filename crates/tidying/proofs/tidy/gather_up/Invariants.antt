use Rattle.std.proofs.lemmas.List.Filters.{FiltersInPlace}
use Rattle.tidying.specs.Tidied.{lively}
use Rattle.tidying.proofs.tidy.gather_up.Given as goal

abbrev pub invariant-loop-i : goal.invariant-loop-i
invariant-loop-i g l = FiltersInPlace lively l.initial.us l.us l.k l.i
