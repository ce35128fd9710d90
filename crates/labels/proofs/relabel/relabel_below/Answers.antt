use Rattle.std.proofs.Common.{◌≡◌, length, refl, sym, ◌∙◌, arith}
use Rattle.std.proofs.lemmas.Bool.{and_parts, leb-true}
use Rattle.std.proofs.lemmas.List.{length-append}
use Rattle.layers.specs.Settings.{lent_setting}
use Rattle.labels.specs.Passes.{below_steps}
use Rattle.labels.proofs.Laying.{below_laid}
use Rattle.labels.proofs.Rooms.{room-facts, follow-facts}
use Rattle.labels.proofs.relabel.relabel_below.Goals as goal

pub overflow_mul-layer : goal.overflow_mul-layer
overflow_mul-layer g c =
    record { fits = omega (arith, follow-facts c.args.layer c.args.by.now.round.now.n c.args.by.now.width (length c.args.nodes.now) (sym c.has_layer.ensures ∙ c.if-has_layer.true)) }

pub split_at_mut-from-requires : goal.split_at_mut-from-requires
split_at_mut-from-requires g c =
    omega (arith, follow-facts c.args.layer c.args.by.now.round.now.n c.args.by.now.width (length c.args.nodes.now) (sym c.has_layer.ensures ∙ c.if-has_layer.true))

pub label_after-requires : goal.label_after-requires
label_after-requires g c =
    let follow = follow-facts c.args.layer c.args.by.now.round.now.n c.args.by.now.width (length c.args.nodes.now) (sym c.has_layer.ensures ∙ c.if-has_layer.true) in
    omega (arith, follow, c.split_at_mut-from.ensures.back_len)

pub overflow_sub-layer : goal.overflow_sub-layer
overflow_sub-layer g c = leb-true _ _ (and_parts _ _ (and_parts _ _ (sym c.has_layer.ensures ∙ c.if-has_layer.true)).1).0

pub overflow_sub-by : goal.overflow_sub-by
overflow_sub-by g c = leb-true _ _ (and_parts _ _ (and_parts _ _ (sym c.has_layer.ensures ∙ c.if-has_layer.true)).1).1

pub label_up-requires : goal.label_up-requires
label_up-requires g c =
    let room = room-facts c.args.by.now.round.now.n c.args.by.now.width (length c.args.nodes.now) (and_parts _ _ (sym c.has_layer.ensures ∙ c.if-has_layer.true)).0 in
    rw (length-append, c.label_after.auto.nodes) (omega (arith, room.enough, c.split_at_mut-from.ensures.front_len, c.split_at_mut-from.ensures.back_len))

pub returns-then-has_layer-clause-passes : goal.returns-then-has_layer-clause-passes
unfolding below_steps
returns-then-has_layer-clause-passes g c =
    rw (← c.has_layer.ensures, c.if-has_layer.true, ← c.split_at_mut-from.ensures.front, ← c.split_at_mut-from.ensures.back, ← c.label_after.ensures) assumption

pub returns-then-has_layer-clause-labelled : goal.returns-then-has_layer-clause-labelled
unfolding below_steps
returns-then-has_layer-clause-labelled g c Ls fit low high f e downs has =
    let by = lent_setting c.args.by.now (g.R.Rule.sense c.args.by.now.rule.now) (g.T.Tally.sense c.args.by.now.tally.now) in
    rw (← below_laid by c.args.layer Ls c.args.nodes.now fit low high f e downs has, ← c.has_layer.ensures, c.if-has_layer.true, ← c.split_at_mut-from.ensures.front, ← c.split_at_mut-from.ensures.back, ← c.label_after.ensures) assumption

pub returns-else-has_layer : goal.returns-else-has_layer
unfolding below_steps
returns-else-has_layer g c =
    let by = lent_setting c.args.by.now (g.R.Rule.sense c.args.by.now.rule.now) (g.T.Tally.sense c.args.by.now.tally.now) in
    let is : c.args.nodes.now ≡ below_steps by c.args.layer c.args.nodes.now = rw (← c.has_layer.ensures, c.if-has_layer.false) refl in
    record { passes = is; labelled = λ Ls fit low high f e downs has. is ∙ below_laid by c.args.layer Ls c.args.nodes.now fit low high f e downs has }
