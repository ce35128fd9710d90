use Rattle.std.proofs.Common.{◌≡◌, ℕ, ◌-◌, Ok, Err, sym, ap, ◌∙◌, ap₂, arith}
use Rattle.layers.specs.declared.refusal.Refusal.TheVariants.{LayerFull}
use Rattle.layers.specs.Settings.{lent_setting}
use Rattle.split.specs.Listed.{told_records}
use Rattle.split.specs.Steps.{parts_from}
use Rattle.split.proofs.Turns.{parts-end, parts-full, parts_more, parts_same, Next, next-most}
use Rattle.split.proofs.parting.part_listed.Goals as goal
use Rattle.split.proofs.parting.part_listed.Goals.{in-Ok, in-Err+in_default}

pub loop-a-init : goal.loop-a-init
loop-a-init g c =
    let by = lent_setting c.args.by.now (g.R.Rule.sense c.args.by.now.rule.now) (g.T.Tally.sense c.args.by.now.tally.now) in
    let all : by.width - 0 ≡ by.width = omega arith in (
      c.count_in-count.ensures.most,
      ap₂ (λ (k m : ℕ). parts_from by 0 k 0 m (told_records by.width c.args.list.now c.args.nodes.now)) all c.count_in-count.ensures.count,
      c.requires.listed,
    )

pub returns-then-count-a : goal.returns-then-count-a
returns-then-count-a g c =
    let by = lent_setting c.args.by.now (g.R.Rule.sense c.args.by.now.rule.now) (g.T.Tally.sense c.args.by.now.tally.now) in
    record { records = parts-end by 0 c.loop-a.a c.loop-a.count _ c.if-count-a.true ∙ c.loop-a.invariant.1; listed = c.loop-a.invariant.2 }

pub returns-in-LayerFull : goal.returns-in-LayerFull
returns-in-LayerFull g c =
    let by = lent_setting c.args.by.now (g.R.Rule.sense c.args.by.now.rule.now) (g.T.Tally.sense c.args.by.now.tally.now) in
    let is : c.part_node.result ≡ Err LayerFull = c.in-Err.is ∙ ap Err c.in-LayerFull.is in
    let n = c.part_node.ensures in
    record { records = parts-full by 0 c.loop-a.a c.loop-a.count _ _ c.loop-a-test.true c.if-count-a.false (sym is ∙ n.0, n.1) ∙ c.loop-a.invariant.1; listed = n.2 }

pub loop-a-preserved : goal.loop-a-preserved
loop-a-preserved g c =
    let by = lent_setting c.args.by.now (g.R.Rule.sense c.args.by.now.rule.now) (g.T.Tally.sense c.args.by.now.tally.now) in
    let a = c.loop-a.a in
    let m = c.loop-a.count in
    let old = c.loop-a.invariant in
    let n = c.part_node.ensures in
    elim c.match-part_node.branch [
      | in-Ok w ↦
          let next : Next by 0 a m _ (Ok tt) _ = (sym w.in-Ok.is ∙ n.0, n.1) in
          rw w.count-is (let most = next-most by 0 a m _ _ old.0 next in omega arith, parts_more by 0 a m _ _ c.loop-a-test.true c.if-count-a.false next ∙ old.1, n.2)
      | in-Err+in_default w ↦ rw w.count-is (old.0, parts_same by 0 a m _ _ w.in-Err.e c.loop-a-test.true c.if-count-a.false w.in_default.not-LayerFull (sym w.in-Err.is ∙ n.0, n.1) ∙ old.1, n.2)
    ]

pub returns : goal.returns
unfolding parts_from
returns g c =
    let by = lent_setting c.args.by.now (g.R.Rule.sense c.args.by.now.rule.now) (g.T.Tally.sense c.args.by.now.tally.now) in
    let none : 0 ≡ by.width - c.loop-a.a = omega (arith, c.loop-a-test.false) in
    record {
      records = ap (λ (k : ℕ). parts_from by 0 k c.loop-a.a c.loop-a.count (told_records by.width c.loop-a.list c.loop-a.nodes)) none ∙ c.loop-a.invariant.1;
      listed = c.loop-a.invariant.2;
    }
