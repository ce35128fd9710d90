use Rattle.std.proofs.Common.{◌≡◌, ℕ, ◌-◌, ◌&&◌, length, sym, ap, ◌∙◌, ap₂, add-one, arith}
use Rattle.std.proofs.lemmas.Bool.{cond-true}
use Rattle.tallies.specs.Tallies.{TallySense}
use Rattle.layers.specs.Settings.{Setting, setting}
use Rattle.labels.specs.Passes.{fits}
use Rattle.labels.proofs.Rooms.{room-facts}
use Rattle.std.proofs.Math.Bool.{and_comm}
use Rattle.split.specs.Steps.{agreed_layers, agreed_steps}
use Rattle.split.proofs.CallWords.{agreed-said}
use Rattle.split.proofs.Checks.{layer-small, layer-within}
use Rattle.split.proofs.agreeing.agreed.Goals as goal

pub overflow_mul-k : goal.overflow_mul-k
overflow_mul-k g c =
    let room = room-facts c.args.round.now.n c.args.width (length c.args.nodes.now) (sym c.if-not-has_room.ensures) in
    let small = layer-small c.args.round.now.n c.args.width c.loop-k.k c.args.round.now.most room.high (omega (arith, c.loop-k-test.true)) in
    omega arith

pub layer_agreed-all-requires : goal.layer_agreed-all-requires
layer_agreed-all-requires g c =
    let room = room-facts c.args.round.now.n c.args.width (length c.args.nodes.now) (sym c.if-not-has_room.ensures) in
    record {
      two_in_bounds = layer-within c.args.round.now.n c.args.width (length c.args.nodes.now) c.loop-k.k room.enough (omega (arith, c.loop-k-test.true));
      width_bound = room.high;
    }

pub loop-k-preserved : goal.loop-k-preserved
unfolding agreed_layers
loop-k-preserved g c s =
    and_comm c.loop-k.all c.layer_agreed-all.result
    ∙ ap₂ ◌&&◌ (c.layer_agreed-all.ensures s) (c.loop-k.invariant s)
    ∙ ap (λ (k : ℕ). agreed_layers (setting c.args.round.now (g.R.Rule.sense c.args.rule.now) s c.args.width) k c.args.nodes.now) (sym (add-one c.loop-k.k))

pub returns : goal.returns
unfolding agreed_steps
returns g c =
    let r = c.args.round.now in
    let w = c.args.width in
    let By : TallySense g.row.V.Denot → Setting g.row.R-State.Denot g.row.V.Denot = λ s. setting r (g.R.Rule.sense c.args.rule.now) s w in
    let xs = c.args.nodes.now in
    let all : c.loop-k.k ≡ r.n - 1 = omega arith in
    let yes : (s : TallySense g.row.V.Denot) → c.loop-k.all ≡ agreed_steps (By s) xs =
    λ s. c.loop-k.invariant s ∙ ap (λ (k : ℕ). agreed_layers (By s) k xs) all ∙ sym (cond-true (fits r.n w (length xs)) _ _ (sym c.if-not-has_room.ensures)) in
    record { steps = yes; words = λ s. agreed-said (By s) xs c.loop-k.all (yes s) }
