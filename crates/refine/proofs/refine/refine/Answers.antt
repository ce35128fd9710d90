use Rattle.std.proofs.Common.{refl}
use Rattle.layers.specs.Settings.{lent_setting}
use Rattle.refine.specs.Steps.{refine_steps}
use Rattle.refine.proofs.RefineWords.{refine_done}
use Rattle.refine.proofs.refine.refine.Goals as goal

pub returns-then-not-has_room-clause-within : goal.returns-then-not-has_room-clause-within
returns-then-not-has_room-clause-within g c = tt

pub returns-then-not-has_room-clause-answer : goal.returns-then-not-has_room-clause-answer
returns-then-not-has_room-clause-answer g c = rw (← c.if-not-has_room.ensures) refl

pub returns-clause-words : goal.returns-clause-words
unfolding refine_steps
returns-clause-words g c fit s =
    let by = lent_setting c.args.by.now (g.R.Rule.sense c.args.by.now.rule.now) (g.T.Tally.sense c.args.by.now.tally.now) in
    refine_done by (g.met.R.Rule.reflexive c.args.by.now.rule.now) c.args.nodes.now fit s c.sweep_out.new.nodes c.refine_layers-answer.result
    (rw (c.sweep_out.ensures, c.refine_layers-answer.ensures.records)) c.refine_layers-answer.ensures.answer
