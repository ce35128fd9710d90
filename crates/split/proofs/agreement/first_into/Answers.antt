use Rattle.std.proofs.Common.{◌≡◌, ◌+◌, true, false, eqb, get_or, Some, sym, refl, ap, ◌∙◌, ap₂, arith}
use Rattle.std.specs.List.{flat_map}
use Rattle.std.proofs.lemmas.Bool.{eq-eqb, ne_eqb}
use Rattle.std.proofs.lemmas.List.{drop_all}
use Rattle.layers.specs.declared.node.Label.{Label}
use Rattle.layers.specs.Labels.{first_arrival, arrival_over}
use Rattle.split.specs.declared.listing.InArc.{InArc}
use Rattle.split.specs.Listed.{told_from, written}
use Rattle.split.specs.Agreed.{brought}
use Rattle.split.proofs.InArcs.{not-yet, brings, brings-none, brings-next, arrivals-listed, place_in, door_in}
use Rattle.split.proofs.agreement.first_into.Goals as goal

abbrev none : InArc
none = record { place = 0; door = 0 }

pub loop-m-init : goal.loop-m-init
loop-m-init g c by = brings-none by c.args.t _ _ (not-yet c.requires.listed c.args.t)

pub loop-m-preserved : goal.loop-m-preserved
loop-m-preserved g c by =
    let m = c.loop-m.m in
    let t = c.args.t in
    let h = c.requires.listed.told.at m c.loop-m-test.true in
    let no : eqb h.x.to t ≡ false = ne_eqb h.x.to t (λ e. c.if-list-m.false (h.to ∙ e)) in
    sym (brings-next c.requires.listed by t m c.loop-m-test.true ∙ rw no refl) ∙ c.loop-m.invariant by

pub returns-then-list-m : goal.returns-then-list-m
unfolding brought
returns-then-list-m g c by =
    let us = c.args.us.now in
    let m = c.loop-m.m in
    let t = c.args.t in
    let l = c.requires.listed in
    let h = l.told.at m c.loop-m-test.true in
    let z = c.index-us-place.result in
    let one : eqb h.x.to t ≡ true = eq-eqb h.x.to t (sym h.to ∙ c.if-list-m.true) in
    let first : first_arrival (flat_map (brings by t) (told_from 0 (written us c.args.list.now))) ≡ Some (arrival_over by h.x.label.down (h.x.arc.door + 1)) =
    ap first_arrival (sym (c.loop-m.invariant by) ∙ brings-next l by t m c.loop-m-test.true) ∙ rw one refl in
    ap₂ (λ (u : Label g.row.S.Denot g.row.V.Denot) (x : InArc). Some (arrival_over by u.down (x.door + 1))) (ap (λ (x : InArc). (get_or us x.place z).label) (h.arc none) ∙ h.label z) (h.arc none)
    ∙ sym (ap first_arrival (arrivals-listed by t c.requires.one_le_t _ l.wide) ∙ first)

pub returns : goal.returns
returns g c by =
    let l = c.requires.listed in
    let told = told_from 0 (written c.args.us.now c.args.list.now) in
    sym (ap first_arrival (arrivals-listed by c.args.t c.requires.one_le_t _ l.wide ∙ sym (c.loop-m.invariant by) ∙ ap (flat_map (brings by c.args.t)) (drop_all c.loop-m.m told (omega (arith, l.told.many)))))

pub offset_bounds-us-place : goal.offset_bounds-us-place
offset_bounds-us-place g c = omega (arith, place_in c.args.us.now c.args.list.now c.loop-m.m none c.requires.listed c.loop-m-test.true)

pub bounds-us-place : goal.bounds-us-place
bounds-us-place g c = place_in c.args.us.now c.args.list.now c.loop-m.m none c.requires.listed c.loop-m-test.true

pub bounds-us-place-then-list-m : goal.bounds-us-place-then-list-m
bounds-us-place-then-list-m g c = place_in c.args.us.now c.args.list.now c.loop-m.m none c.requires.listed c.loop-m-test.true

pub invariant_of-result : goal.invariant_of-result
invariant_of-result g c = record { fits = omega (arith, door_in c.args.us.now c.args.list.now c.loop-m.m none c.requires.listed c.loop-m-test.true) }
