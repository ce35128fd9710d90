use Rattle.std.proofs.Common.{sym, refl, ◌∙◌}
use Rattle.std.proofs.lemmas.Bool.{false≢true}
use Rattle.layers.specs.Calls.{after_backsweep}
use Rattle.labels.proofs.Folds.{all_any}
use Rattle.filter.specs.Steps.{backsweep_steps}
use Rattle.filter.proofs.backsweep.backsweep.Goals as goal

pub returns-then-not-has_room : goal.returns-then-not-has_room
returns-then-not-has_room g c =
    record { steps = rw (← c.if-not-has_room.ensures) refl; counted = rw (← c.if-not-has_room.ensures) refl; words = λ fit s. absurd (false≢true (c.if-not-has_room.ensures ∙ fit)) }

pub filter-requires : goal.filter-requires
filter-requires g c = record { room = sym c.if-not-has_room.ensures; fits = all_any _ }

pub returns : goal.returns
unfolding backsweep_steps after_backsweep
returns g c = record {
  steps = rw (← c.if-not-has_room.ensures) c.filter.ensures.steps;
  counted = rw (← c.if-not-has_room.ensures) c.filter.ensures.counted;
  words = λ fit s. c.filter.ensures.words (λ no. absurd (false≢true no)) s;
}
