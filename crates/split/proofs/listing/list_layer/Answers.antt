use Rattle.std.proofs.Common.{◌≡◌, ◌+◌, [], ◌∷◌, ◌++◌, length, take, drop, append_assoc, append-nil, refl, sym, ap, ◌∙◌, subst, arith}
use Rattle.std.proofs.lemmas.List.{take_all, drop_all, drop_more, get_or_read}
use Rattle.std.proofs.lemmas.List.Elements.{All-more, All-nil, All-same}
use Rattle.split.specs.declared.listing.InArcs.{InArcs}
use Rattle.split.specs.Listed.{told_node, told_from, IsTold, Lists}
use Rattle.split.proofs.Divided.{listed-back, written-back}
use Rattle.split.proofs.listing.list_layer.Goals as goal

pub loop-a-init : goal.loop-a-init
loop-a-init g c = (omega arith, All-nil (λ u. length u.arcs.to ≡ 16), ([], record { many = refl; at = λ m lt. absurd (omega arith) }, refl))

pub loop-a-preserved : goal.loop-a-preserved
unfolding told_from
loop-a-preserved g c =
    let us = c.args.us.now in
    let a = c.loop-a.a in
    let u = c.index-us-a.result in
    let old = c.loop-a.invariant.2 in (
      omega (arith, c.list_node.ensures.few),
      All-more (λ v. length v.arcs.to ≡ 16) us a u (omega arith) c.loop-a.invariant.1 (ap (λ v. length v.arcs.to) (sym c.index-us-a.is) ∙ c.list_node.ensures.wide),
      (
        old.0 ++ told_node a u,
        c.list_node.ensures.told us old.0 (omega arith) (λ z. ap (λ v. v.label) (sym (get_or_read us a u (omega arith) c.index-us-a.is z))) old.1,
        append_assoc old.0 (told_node a u) _ ∙ ap (λ vs. old.0 ++ told_from a vs) (ap (λ v. v ∷ drop (a + 1) us) c.index-us-a.is ∙ sym (drop_more us a u (omega arith))) ∙ old.2,
      ),
    )

pub returns : goal.returns
unfolding told_from
returns g c =
    let us = c.args.us.now in
    let list = c.find_starts.new.list in
    let old = c.loop-a.invariant.2 in
    let all : take c.loop-a.a us ≡ us = take_all c.loop-a.a us (omega arith) in
    let told : IsTold us c.loop-a.list (told_from 0 us) = subst (IsTold us c.loop-a.list) (sym (append-nil old.0) ∙ ap (λ vs. old.0 ++ told_from c.loop-a.a vs) (sym (drop_all c.loop-a.a us (omega arith))) ∙ old.2) old.1 in
    let lists : Lists us us list = record {
      told = subst (λ (l : InArcs). IsTold us l (told_from 0 us)) (sym c.find_starts.ensures.same) (record { many = told.many; at = told.at });
      few = omega (arith, ap (λ (l : InArcs). l.many) c.find_starts.ensures.same, c.loop-a.invariant.0, c.requires.few);
      husks = refl;
      wide = All-same (λ v. length v.arcs.to ≡ 16) us (take c.loop-a.a us) (sym all) c.loop-a.invariant.1;
      early = c.find_starts.ensures.early;
    } in
    record { listed = listed-back us us list lists; same = written-back us us list lists }
