use Rattle.std.proofs.Common.{refl, ap, ap₂, ◌∙◌, sym}
use Rattle.tallies.specs.Late.{late_sense}
use Rattle.layers.specs.Calls.{after_open, refinement}
use Rattle.packed.specs.Answers.{word_of_refined}
use Rattle.packed.specs.Often.{turns}
use Rattle.packed.specs.Senses.{Recs}
use Rattle.packed.proofs.Parts.{setting-is, blank-is}
use Rattle.packed.proofs.Turns.{turns-more}
use Rattle.packed.proofs.often.refine_times.Goals as goal

pub loop-turn-init : goal.loop-turn-init
unfolding turns
loop-turn-init c =
    let late = ap (λ x. late_sense x.now.n x.now.doors) c.of-tally.ensures in
    (refl, refl, blank-is c.args.room c.args.room _ _ refl c.side-rule.ensures late _ c.blank_node-records.ensures)

pub loop-turn-preserved : goal.loop-turn-preserved
loop-turn-preserved c =
    let late = ap (λ x. late_sense x.now.n x.now.doors) c.of-tally.ensures in
    let is = setting-is c.args.room c.args.room _ _ refl c.side-rule.ensures late in
    let e = ap₂ (λ by (zs : Recs). refinement by (after_open by zs)) is c.loop-turn.invariant.2 in
    let more = turns-more c.args.room.round.now c.args.room.width c.loop-turn.turn in (
      c.refine_once-answer.auto.records ∙ c.loop-turn.invariant.0,
      c.refine_once-answer.ensures.answer ∙ ap (λ p. word_of_refined p.0) e ∙ sym (ap (λ p. p.0) more),
      c.refine_once-answer.ensures.records ∙ ap (λ p. p.1) e ∙ sym (ap (λ p. p.1) more),
    )
