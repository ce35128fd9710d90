use Rattle.std.proofs.Common.{◌≡◌, not, ◌&&◌, false, sym, ap, ◌∙◌, ap₂, arith}
use Rattle.std.proofs.lemmas.List.{take_all}
use Rattle.std.proofs.lemmas.List.Folds.{list_all_more, list_all_at}
use Rattle.split.specs.declared.listing.InArc.{InArc}
use Rattle.split.specs.Listed.{told_from, written, leaves, all_stay}
use Rattle.split.proofs.InArcs.{some_record, leaves-here, other-here, not-yet, stay-none, place_in, door_in}
use Rattle.split.proofs.dividing.first_leaving.Goals as goal
use Rattle.split.proofs.dividing.first_leaving.Goals.{else-list-m-via-then-list-m+else-leaves, else-list-m-via-else-list-m}

abbrev none : InArc
none = record { place = 0; door = 0 }

pub loop-m-init : goal.loop-m-init
loop-m-init g c = stay-none (g.K.Test.keeps c.args.test.now) c.args.t _ _ (not-yet c.requires.listed c.args.t)

pub loop-m-preserved : goal.loop-m-preserved
loop-m-preserved g c =
    let l = c.requires.listed in
    let m = c.loop-m.m in
    let t = c.args.t in
    let keeps = g.K.Test.keeps c.args.test.now in
    let h = l.told.at m c.loop-m-test.true in
    let out : leaves keeps t h.x ≡ false =
    elim c.else-list-m.branch [
      | else-list-m-via-then-list-m+else-leaves w ↦ leaves-here h keeps t none (some_record h.x) (sym h.to ∙ w.if-list-m.true) ∙ sym (w.leaves.ensures (some_record h.x)) ∙ w.if-leaves.false
      | else-list-m-via-else-list-m w ↦ other-here h keeps t (λ e. w.if-list-m.false (h.to ∙ e))
    ] in
    list_all_more (λ x. not (leaves keeps t x)) _ m h.x (omega (arith, l.told.many)) ∙ ap₂ ◌&&◌ c.loop-m.invariant (ap (λ x. not (leaves keeps t x)) (h.is h.x) ∙ ap not out)

pub returns-then-leaves : goal.returns-then-leaves
returns-then-leaves g c =
    let l = c.requires.listed in
    let m = c.loop-m.m in
    let t = c.args.t in
    let keeps = g.K.Test.keeps c.args.test.now in
    let h = l.told.at m c.loop-m-test.true in
    let z = some_record h.x in (
      omega (arith, l.few),
      c.if-list-m.true,
      list_all_at (λ x. not (leaves keeps t x)) _ m h.x (omega (arith, l.told.many))
          (ap (λ x. not (leaves keeps t x)) (h.is h.x) ∙ ap not (leaves-here h keeps t none z (sym h.to ∙ c.if-list-m.true) ∙ sym (c.leaves.ensures z) ∙ c.if-leaves.true)),
      c.loop-m.invariant,
    )

pub returns : goal.returns
returns g c =
    let told = told_from 0 (written c.args.us.now c.args.list.now) in
    ap (all_stay (g.K.Test.keeps c.args.test.now) c.args.t) (sym (take_all c.loop-m.m told (omega (arith, c.requires.listed.told.many)))) ∙ c.loop-m.invariant

pub leaves-requires : goal.leaves-requires
leaves-requires g c =
    let l = c.requires.listed in let lt = c.loop-m-test.true in
    record { place_in_bounds = place_in c.args.us.now c.args.list.now c.loop-m.m none l lt; door_bound = door_in c.args.us.now c.args.list.now c.loop-m.m none l lt }
