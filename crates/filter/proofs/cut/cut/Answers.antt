use Rattle.std.proofs.Common.{length, sym, refl, arith, ◌∙◌}
use Rattle.std.proofs.lemmas.Bool.{false≢true}
use Rattle.layers.specs.Calls.{after_cut}
use Rattle.labels.proofs.Rooms.{room-facts}
use Rattle.filter.specs.Steps.{cut_steps}
use Rattle.filter.proofs.Timely.{timely_all, timely_from}
use Rattle.filter.proofs.cut.cut.Goals as goal

pub returns-then-not-has_room : goal.returns-then-not-has_room
returns-then-not-has_room g c =
    record { steps = rw (← c.if-not-has_room.ensures) refl; counted = rw (← c.if-not-has_room.ensures) refl; words = λ fit s early. absurd (false≢true (c.if-not-has_room.ensures ∙ fit)) }

pub overflow_mul-by : goal.overflow_mul-by
overflow_mul-by g c = let room = room-facts c.args.by.now.round.now.n c.args.by.now.width (length c.args.nodes.now) (sym c.if-not-has_room.ensures) in omega arith

pub all_timely-requires : goal.all_timely-requires
all_timely-requires g c = let room = room-facts c.args.by.now.round.now.n c.args.by.now.width (length c.args.nodes.now) (sym c.if-not-has_room.ensures) in omega arith

pub returns-then-not-all_timely : goal.returns-then-not-all_timely
returns-then-not-all_timely g c = record {
  steps = rw (← c.if-not-has_room.ensures, ← c.if-not-all_timely.ensures) refl;
  counted = rw (← c.if-not-has_room.ensures, ← c.if-not-all_timely.ensures) refl;
  words = λ fit s early. absurd (false≢true (c.if-not-all_timely.ensures ∙ timely_from _ early));
}

pub filter-requires : goal.filter-requires
filter-requires g c = record { room = sym c.if-not-has_room.ensures; fits = timely_all _ (sym c.if-not-all_timely.ensures) }

pub returns : goal.returns
unfolding cut_steps after_cut
returns g c = record {
  steps = rw (← c.if-not-has_room.ensures, ← c.if-not-all_timely.ensures) c.filter.ensures.steps;
  counted = rw (← c.if-not-has_room.ensures, ← c.if-not-all_timely.ensures) c.filter.ensures.counted;
  words = λ fit s early. c.filter.ensures.words (λ no. absurd (false≢true no)) s;
}
