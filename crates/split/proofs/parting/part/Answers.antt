use Rattle.std.proofs.Common.{◌≡◌, ℕ, suc, ◌+◌, ◌-◌, ◌*◌, true, leb, List, Ok, Err, sym, refl, ap, ◌∙◌}
use Rattle.std.specs.Result.{IsErrAnd}
use Rattle.std.proofs.lemmas.Result.{err_from_is_err_and}
use Rattle.layers.specs.declared.node.Node.{Node}
use Rattle.layers.specs.declared.refusal.Refusal.{Refusal}
use Rattle.layers.specs.Calls.{Outcome}
use Rattle.layers.specs.Settings.{Setting, lent_setting}
use Rattle.split.specs.Steps.{node_count, group_check, alike, parted_one, part_check, part_steps}
use Rattle.split.specs.Words.{PartDone}
use Rattle.split.proofs.Checks.{part-check-is, part-refused, part-done}
use Rattle.split.proofs.CallWords.{part-said}
use Rattle.split.proofs.Turns.{next-ok, next-err}
use Rattle.split.proofs.parting.part.Goals as goal

-- a refusal, of a list that stays
refused : {S V : Type 0} (by : Setting S V) (self : (x : S) → by.rule.same x x ≡ true) (i a : ℕ) (xs ys : List (Node S V)) (o : Outcome) (e : Refusal) → IsErrAnd o (λ f. f ≡ e) → part_check by i a xs ≡ Err e → ys ≡ xs
    → (o ≡ part_check by i a xs) × (ys ≡ part_steps by i a xs) × PartDone by xs i a o ys
refused by self i a xs ys o e was check same =
    let p = err_from_is_err_and o was in
    let answer = p.1 ∙ ap Err p.2 ∙ sym check in
    let steps = same ∙ part-refused by i xs a e check in
    (answer, steps, part-said by self i a xs ys o answer steps)

pub returns-in_err-check_place : goal.returns-in_err-check_place
unfolding part_check
returns-in_err-check_place g c =
    let by = lent_setting c.args.by.now (g.R.Rule.sense c.args.by.now.rule.now) (g.T.Tally.sense c.args.by.now.tally.now) in
    let f = c.in_err-check_place.ensures in
    let d = refused by (g.met.R.Rule.reflexive c.args.by.now.rule.now) c.args.layer c.args.node c.args.nodes.now _ _ c.in_err-check_place.field-0.0 c.from_residual.ensures.1 (rw f refl) refl in
    record { answer = d.0; steps = d.1; words = d.2 }

pub returns-in_err-check_node : goal.returns-in_err-check_node
unfolding part_check
returns-in_err-check_node g c =
    let by = lent_setting c.args.by.now (g.R.Rule.sense c.args.by.now.rule.now) (g.T.Tally.sense c.args.by.now.tally.now) in
    let e = c.count_in-count.ensures.count in
    let f = c.in_err-check_node.ensures in
    let d = refused by (g.met.R.Rule.reflexive c.args.by.now.rule.now) c.args.layer c.args.node c.args.nodes.now _ _ c.in_err-check_node.field-0.0 c.from_residual-in_err-check_node.ensures.1 (rw (c.in_ok-check_place.ensures.clear, ← e, f) refl) refl in
    record { answer = d.0; steps = d.1; words = d.2 }

pub returns-in_err-part_at : goal.returns-in_err-part_at
returns-in_err-part_at g c =
    let by = lent_setting c.args.by.now (g.R.Rule.sense c.args.by.now.rule.now) (g.T.Tally.sense c.args.by.now.tally.now) in
    let i = c.args.layer in
    let a = c.args.node in
    let xs = c.args.nodes.now in
    let m = c.count_in-count.result in
    let e = c.in_err-part_at.field-0.0 in
    let check = sym c.part_at.ensures.answer ∙ c.in_err-part_at.was in
    let clear = part-check-is by i xs a m c.in_ok-check_place.ensures c.count_in-count.ensures.count c.in_ok-check_node.ensures in
    let d = refused by (g.met.R.Rule.reflexive c.args.by.now.rule.now) i a xs _ _ e c.from_residual-in_err-part_at.ensures.1 (clear ∙ check) (c.part_at.ensures.records ∙ next-err by ((i - 1) * by.width) (a - 1) m xs e check) in
    record { answer = d.0; steps = d.1; words = d.2 }

pub returns : goal.returns
returns g c =
    let by = lent_setting c.args.by.now (g.R.Rule.sense c.args.by.now.rule.now) (g.T.Tally.sense c.args.by.now.tally.now) in
    let i = c.args.layer in
    let a = c.args.node in
    let xs = c.args.nodes.now in
    let at = (i - 1) * by.width in
    let m = c.count_in-count.result in
    let ys = c.part_at.new.nodes in
    let placed = c.in_ok-check_place.ensures in
    let check : group_check (alike by at (suc (a - 1)) xs) (leb by.width m) ≡ Ok tt = sym c.part_at.ensures.answer ∙ c.in_ok-part_at.was in
    let clear = part-check-is by i xs a m placed c.count_in-count.ensures.count c.in_ok-check_node.ensures ∙ check in
    let made : ys ≡ parted_one by at (a - 1) (node_count (at + by.width) by.width xs) xs =
    c.part_at.ensures.records ∙ next-ok by at (a - 1) m xs check ∙ ap (λ (k : ℕ). parted_one by at (a - 1) k xs) c.count_in-count.ensures.count in
    let steps = part-done by i xs a ys c.relabel.new.nodes placed clear c.part_at.auto.nodes made c.relabel.ensures.passes in
    record {
      answer = sym clear;
      steps = steps;
      words = part-said by (g.met.R.Rule.reflexive c.args.by.now.rule.now) i a xs c.relabel.new.nodes (Ok tt) (sym clear) steps;
    }
