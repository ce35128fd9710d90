use Rattle.std.proofs.Common.{ℕ, ◌+◌, ◌-◌, ◌≡◌, ◌&&◌, take, drop, refl, sym, ap, ◌∙◌, ap₂, add-one, arith}
use Rattle.std.proofs.lemmas.List.{length-take}
use Rattle.layers.specs.Labels.{all_agree}
use Rattle.layers.specs.Settings.{lent_setting}
use Rattle.labels.specs.Passes.{part, arrivals}
use Rattle.std.proofs.Math.Bool.{and_comm}
use Rattle.split.specs.Steps.{agreed_to}
use Rattle.split.proofs.agreeing.layer_agreed.Goals as goal

pub loop-b-preserved : goal.loop-b-preserved
unfolding agreed_to
loop-b-preserved g c s =
    let by = lent_setting c.args.by.now (g.R.Rule.sense c.args.by.now.rule.now) s in
    let us = part c.args.at by.width c.args.nodes.now in
    let b = c.loop-b.b in
    let w : c.args.at + by.width - c.args.at ≡ by.width = omega arith in
    and_comm c.loop-b.all c.alike-all.result
    ∙ ap₂ ◌&&◌ (c.alike-all.ensures s ∙ ap (λ ys. all_agree by.rule (arrivals by (b + 1) ys)) c.list_layer.ensures.same ∙ ap₂ (λ (k t : ℕ). all_agree by.rule (arrivals by t (take k (drop c.args.at c.args.nodes.now)))) w (add-one b)) (c.loop-b.invariant s)
    ∙ ap (λ (k : ℕ). agreed_to by k us) (sym (add-one b))

pub loop-b-init : goal.loop-b-init
unfolding agreed_to
loop-b-init g c s = refl

pub list_layer-requires : goal.list_layer-requires
list_layer-requires g c = record { few = simp length-take (omega arith) }

pub returns : goal.returns
returns g c s = let all : c.loop-b.b ≡ c.count_in-count.result = omega arith in rw (← c.count_in-count.ensures.count, ← all) (c.loop-b.invariant s)
