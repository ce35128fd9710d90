use Rattle.std.proofs.Common.{◌++◌, ◌-◌, length, get_or, drop, take, sym, ap, ◌∙◌, arith}
use Rattle.tidying.specs.Tidied.{numbers, tidied}
use Rattle.std.proofs.lemmas.List.{length-take}
use Rattle.labels.proofs.Rests.{one_more, rest-fits}
use Rattle.labels.proofs.Rooms.{few-records}
use Rattle.tidying.proofs.Renewed.{numbers-zero}
use Rattle.tidying.proofs.Targets.{bare-from, layer-less}
use Rattle.tidying.proofs.Steps.{numbers-step, tidied-step}
use Rattle.tidying.proofs.tidy.+tidy_from.Goals as goal

pub returns : goal.returns
returns g t c =
    let xs = c.args.nodes.now in
    let row = c.split_at_mut-us.result.0.now in
    let rest = c.split_at_mut-us.result.1.now in
    let k = c.count_nodes-many.result in
    let some = c.if-left-eq0.false in
    let parts = c.split_at_mut-us.ensures in
    let nodes = c.count_nodes-many.ensures in
    let here = c.tidy_nodes-here.ensures in
    let later = c.tidy_from-later.ensures in
    record {
      records = ap (λ us. us ++ drop k row ++ c.tidy_from-later.new.nodes) here.records
          ∙ tidied-step c.args.w c.args.blank.now c.args.left c.args.from.now xs row (take k row) rest _ k _ _ some parts.front parts.back nodes.first nodes.many c.mark_next-next.ensures later.numbered later.records;
      numbered = here.numbered ∙ numbers-step c.args.w c.args.blank.now c.args.left c.args.from.now xs row (take k row) rest _ _ some parts.front parts.back nodes.first c.mark_next-next.ensures later.numbered;
      lost = layer-less c.args.w k _ _ xs row rest c.tidy_nodes-here.new.us c.tidy_from-later.new.nodes parts.front parts.back here.lost later.lost;
      few = omega (arith, one_more c.args.left c.args.w some, length-take k row, parts.front_len, here.few, later.few);
    }

pub tidy_nodes-here-requires-clause-none : goal.tidy_nodes-here-requires-clause-none
tidy_nodes-here-requires-clause-none g t c =
    ap (λ ns. get_or ns 0 0) c.tidy_from-later.ensures.numbered
    ∙ numbers-zero c.args.w c.args.blank.now (bare-from c.args.blank.now c.requires.bare) (omega (arith, c.requires.w_bound)) (c.args.left - 1) c.mark_next-next.result c.split_at_mut-us.result.1.now

pub returns-then-left-eq0-clause-records : goal.returns-then-left-eq0-clause-records
unfolding tidied
returns-then-left-eq0-clause-records g t c = ap (λ k. tidied c.args.w c.args.blank.now k c.args.from.now c.args.nodes.now) (sym c.if-left-eq0.true)

pub returns-then-left-eq0-clause-numbered : goal.returns-then-left-eq0-clause-numbered
unfolding numbers
returns-then-left-eq0-clause-numbered g t c = ap (λ k. numbers c.args.w c.args.blank.now k c.args.from.now c.args.nodes.now) (sym c.if-left-eq0.true)

pub split_at_mut-us-requires : goal.split_at_mut-us-requires
split_at_mut-us-requires g t c = omega (arith, one_more c.args.left c.args.w c.if-left-eq0.false)

pub overflow_add-lost : goal.overflow_add-lost
overflow_add-lost g t c =
    let short = length-take c.count_nodes-many.result c.split_at_mut-us.result.0.now in
    omega (arith, short, few-records (c.args.left - 1) c.args.w (omega (arith, c.requires.left_bound)) c.requires.w_bound, c.tidy_nodes-here.ensures.few, c.split_at_mut-us.ensures.front_len, c.tidy_from-later.ensures.few)

pub tidy_from-later-requires : goal.tidy_from-later-requires
tidy_from-later-requires g t c κs within =
    let rest = rest-fits c.args.left c.args.w (length c.args.nodes.now) c.if-left-eq0.false c.requires.w_in_bounds in
    (omega arith, (within.0, (within.1, (c.requires.w_bound, (omega (arith, c.requires.left_bound), (omega (arith, rest, c.split_at_mut-us.ensures.back_len), c.requires.bare))))))
