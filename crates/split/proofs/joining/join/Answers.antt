use Rattle.std.proofs.Common.{◌≡◌, ℕ, ◌+◌, ◌-◌, ◌*◌, min, max, length, Ok, Err, sym, refl, ap, ◌∙◌, ap₂, arith}
use Rattle.layers.specs.Settings.{lent_setting}
use Rattle.std.proofs.lemmas.Result.{err_from_is_err_and}
use Rattle.split.specs.Steps.{joined_one, join_check, join_steps}
use Rattle.split.proofs.Checks.{join-done, count_most}
use Rattle.split.proofs.CallWords.{join-said}
use Rattle.split.proofs.joining.join.Goals as goal

pub returns-in_err-check_join : goal.returns-in_err-check_join
unfolding join_steps
returns-in_err-check_join g c =
    let by = lent_setting c.args.by.now (g.R.Rule.sense c.args.by.now.rule.now) (g.T.Tally.sense c.args.by.now.tally.now) in
    let i = c.args.layer in let a = c.args.a in let b = c.args.b in let xs = c.args.nodes.now in
    let p = err_from_is_err_and c.from_residual.result c.from_residual.ensures.1 in
    let no = c.in_err-check_join.ensures in
    let answer : c.from_residual.result ≡ join_check by i a b xs = p.1 ∙ ap Err p.2 ∙ sym no in
    let steps : xs ≡ join_steps by i a b xs = rw no refl in
    record { answer = answer; steps = steps; words = join-said by i a b xs xs c.from_residual.result answer steps }

pub returns : goal.returns
returns g c =
    let by = lent_setting c.args.by.now (g.R.Rule.sense c.args.by.now.rule.now) (g.T.Tally.sense c.args.by.now.tally.now) in
    let i = c.args.layer in
    let a = c.args.a in
    let b = c.args.b in
    let xs = c.args.nodes.now in
    let at = (i - 1) * by.width in
    let ys = c.join_nodes.new.nodes in
    let may = c.in_ok-check_join.ensures in
    let long : length ys ≡ length xs = omega arith in
    let made : ys ≡ joined_one by at (min a b - 1) (max a b - 1) xs = c.join_nodes.ensures ∙ ap₂ (λ (lo hi : ℕ). joined_one by at (lo - 1) (hi - 1) xs) c.min.ensures c.max.ensures in
    let steps = join-done by i xs a b ys c.relabel.new.nodes may.placed may.clear long made c.relabel.ensures.passes in
    record { answer = sym may.clear; steps = steps; words = join-said by i a b xs c.relabel.new.nodes (Ok tt) (sym may.clear) steps }

pub join_nodes-requires-clause-hi_le_width : goal.join_nodes-requires-clause-hi_le_width
join_nodes-requires-clause-hi_le_width g c =
    let w = c.args.by.now.width in let may = c.in_ok-check_join.ensures in
    omega (arith, c.max.ensures, may.high_a, may.high_b, count_most ((c.args.layer - 1) * w + w) w c.args.nodes.now)
