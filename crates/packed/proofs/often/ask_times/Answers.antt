use Rattle.std.proofs.Common.{arith, ◌≡◌, refl, sym, ap, ap₂, ◌∙◌}
use Rattle.tallies.specs.Late.{late_sense}
use Rattle.layers.specs.Calls.{after_refine}
use Rattle.allowed.specs.Senses.{side_of}
use Rattle.diagram.specs.declared.room.Room.{Room}
use Rattle.diagram.specs.Words.{room_of}
use Rattle.packed.specs.Often.{answer_word, last_answer, refined_diagram}
use Rattle.packed.specs.Senses.{Recs, doors_sense}
use Rattle.rules.specs.Sides.{side_sense}
use Rattle.packed.proofs.Parts.{setting-is, opened-is}
use Rattle.packed.proofs.often.ask_times.Goals as goal

pub ask-last-requires : goal.ask-last-requires
ask-last-requires c = c.side-rule.ensures ∙ ap (λ (m : Room). side_of m.round.now) (sym (c.refine.ensures.room ∙ c.open-diagram.ensures.room))

pub returns : goal.returns
unfolding refined_diagram
returns c =
    let r = c.args.room.round.now in
    let W = c.args.room.width in
    let late = ap (λ x. late_sense x.now.n x.now.doors) c.of-tally.ensures in
    let m = room_of c.open-diagram.result in
    let is = setting-is c.args.room m (side_sense c.side-rule.result) (doors_sense c.of-tally.result) c.open-diagram.ensures.room c.side-rule.ensures late in
    let opened = c.open-diagram.ensures.records ∙ opened-is c.args.room m _ _ c.open-diagram.ensures.room c.side-rule.ensures late _ c.blank_node-records.ensures in
    let room : c.refine.new.self.room ≡ c.args.room = c.refine.ensures.room ∙ c.open-diagram.ensures.room in
    let left : c.refine.new.self.nodes.now ≡ refined_diagram r W = c.refine.ensures.records ∙ ap₂ (λ by (xs : Recs). after_refine by xs) is opened in
    c.loop-turn.invariant
    ∙ ap₂ (λ (m : Room) (xs : Recs). last_answer c.loop-turn.turn (answer_word c.args.question m.round.now m.width xs)) room left
    ∙ ap (λ t. last_answer t (answer_word c.args.question r W (refined_diagram r W))) (omega arith)

pub loop-turn-init : goal.loop-turn-init
loop-turn-init c = refl
