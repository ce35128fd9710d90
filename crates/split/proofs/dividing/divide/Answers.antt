use Rattle.std.proofs.Common.{◌≡◌, ℕ, suc, ◌+◌, ◌-◌, not, get_or, min, set, take, true, false, refl, sym, ap, ◌∙◌, subst, arith}
use Rattle.std.proofs.lemmas.Bool.{le-ltb}
use Rattle.std.proofs.lemmas.List.{set-get_or}
use Rattle.split.specs.declared.listing.InArc.{InArc}
use Rattle.split.specs.declared.listing.InArcs.{InArcs}
use Rattle.split.specs.Listed.{told_from, written, all_stay, leaves, Lists}
use Rattle.split.proofs.InArcs.{some_record, leaves-here, other-here}
use Rattle.split.proofs.Divided.{renumbered-there, sent-first, sent-next, divided, listed-back, written-back}
use Rattle.split.proofs.dividing.divide.Goals as goal
use Rattle.split.proofs.dividing.divide.Goals.{then-list-m+then-leaves, else-list-m, else-list-m-via-then-list-m+else-leaves, else-list-m-via-else-list-m}

abbrev none : InArc
none = record { place = 0; door = 0 }

pub loop-m-init : goal.loop-m-init
loop-m-init g c =
    let us = c.args.us.now in
    let list = c.args.list.now in
    let t = get_or list.to c.args.from 0 in
    let keeps = g.K.Test.keeps c.args.test.now in
    let back : t ≡ suc (t - 1) = omega (arith, c.requires.one_le_t) in
    (refl, sent-first keeps (t - 1) (c.args.new - 1) us list c.requires.listed c.args.from (omega arith) (subst (λ (k : ℕ). all_stay keeps k (take c.args.from (told_from 0 (written us list))) ≡ true) back c.requires.first))

pub leaves-requires : goal.leaves-requires
leaves-requires g c =
    let h = c.requires.listed.told.at c.loop-m.m c.loop-m-test.true in
    let same : get_or c.loop-m.list.arcs c.loop-m.m none ≡ h.x.arc = ap (λ (l : InArcs). get_or l.arcs c.loop-m.m none) c.loop-m.invariant.0 ∙ h.arc none in
    record { place_in_bounds = rw same h.place; door_bound = rw same h.door }

pub loop-m-preserved : goal.loop-m-preserved
loop-m-preserved g c =
    let us = c.args.us.now in
    let list = c.args.list.now in
    let l = c.requires.listed in
    let m = c.loop-m.m in
    let lt = c.loop-m-test.true in
    let L = c.loop-m.list in
    let keeps = g.K.Test.keeps c.args.test.now in
    let t = get_or list.to c.args.from 0 in
    let a = t - 1 in
    let n = c.args.new - 1 in
    let back : t ≡ suc a = omega (arith, c.requires.one_le_t) in
    let new : c.args.new ≡ suc n = omega (arith, c.requires.one_le_new) in
    let old = c.loop-m.invariant in
    let h = l.told.at m lt in
    let z = some_record h.x in
    let at : get_or L.to m 0 ≡ h.x.to = old.1.1 m h.x lt ∙ rw (le-ltb m m (omega arith)) (ap (λ y. y.to) (h.is h.x)) in
    let there = renumbered-there keeps a n h.x h.used in
    let said : get_or L.to m 0 ≡ t → leaves keeps (suc a) h.x ≡ not (keeps (get_or us (get_or L.arcs m none).place z).label ((get_or L.arcs m none).door + 1)) =
    λ e. leaves-here h keeps (suc a) none z (sym at ∙ e ∙ back) ∙ ap (λ (k : InArcs). not (keeps (get_or us (get_or k.arcs m none).place z).label ((get_or k.arcs m none).door + 1))) (sym old.0) in
    elim c.if-list-m.branch [
      | then-list-m+then-leaves w ↦ (
        w.list-is ∙ ap (λ (k : InArcs). record k { to = set L.to m c.args.new }) old.0 ∙ ap (λ (k : InArcs). record list { to = k.to }) (sym w.list-is),
        sent-next keeps a n us list l m L.to c.if-list-m.list.to c.args.new lt (ap (λ (k : InArcs). k.to) w.list-is) (new ∙ sym (there true (said w.if-list-m.true ∙ sym (w.leaves.ensures z) ∙ w.if-leaves.true))) old.1,
      )
      | else-list-m w ↦ (
        w.list-is ∙ old.0 ∙ ap (λ (k : InArcs). record list { to = k.to }) (sym w.list-is),
        sent-next keeps a n us list l m L.to c.if-list-m.list.to (get_or L.to m 0) lt (ap (λ (k : InArcs). k.to) w.list-is ∙ sym (set-get_or L.to m 0)) (at ∙ sym (there false
            (elim w.else-list-m.branch [
              | else-list-m-via-then-list-m+else-leaves w' ↦ said w'.if-list-m.true ∙ sym (w'.leaves.ensures z) ∙ w'.if-leaves.false
              | else-list-m-via-else-list-m w' ↦ other-here h keeps (suc a) (λ e. w'.if-list-m.false (at ∙ e ∙ sym back))
            ]))) old.1,
      )
    ]

pub returns : goal.returns
returns g c =
    let us = c.args.us.now in
    let list = c.args.list.now in
    let keeps = g.K.Test.keeps c.args.test.now in
    let t = get_or list.to c.args.from 0 in
    let a = t - 1 in
    let n = c.args.new - 1 in
    let back : t ≡ suc a = omega (arith, c.requires.one_le_t) in
    let new : c.args.new ≡ suc n = omega (arith, c.requires.one_le_new) in
    let old = c.loop-m.invariant in
    let L = c.loop-m.list in
    let T = L.to in
    let from = c.args.from in
    let made : Lists us _ (record list { to = T; starts = set list.starts (suc n) (min (get_or list.starts (suc n) 0) from) }) =
    divided keeps a n us list c.requires.listed from c.loop-m.m T old.1 c.loop-m-test.false (omega (arith, c.requires.one_le_new))
    (subst (λ (k : ℕ). all_stay keeps k (take from (told_from 0 (written us list))) ≡ true) back c.requires.first) in
    let same : record L { starts = set L.starts c.args.new c.min.result } ≡ record list { to = T; starts = set list.starts (suc n) (min (get_or list.starts (suc n) 0) from) } =
    ap (λ (v : ℕ). record L { starts = set L.starts c.args.new v }) c.min.ensures
    ∙ ap (λ (k : InArcs). record { arcs = k.arcs; to = T; many = k.many; starts = set k.starts c.args.new (min (get_or k.starts c.args.new 0) from) }) old.0
    ∙ ap (λ (b : ℕ). record list { to = T; starts = set list.starts b (min (get_or list.starts b 0) from) }) new in
    let lists = subst (Lists us _) (sym same) made in
    record { records = written-back us _ _ lists; listed = listed-back us _ _ lists }
