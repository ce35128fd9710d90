use Rattle.std.proofs.Common.{◌+◌, ◌++◌, [], ◌∷◌, get_or, drop, append_assoc, sym, ap, ◌∙◌, arith}
use Rattle.std.proofs.lemmas.Bool.{ne_eqb}
use Rattle.std.proofs.lemmas.List.{drop_more, length-set}
use Rattle.split.specs.Listed.{Told, told_doors}
use Rattle.split.proofs.InArcs.{doors-some, told-push}
use Rattle.split.proofs.listing.list_node.Goals as goal
use Rattle.split.proofs.listing.list_node.Goals.{then-to-ne0, else-to-ne0}

pub loop-k-preserved : goal.loop-k-preserved
loop-k-preserved g c =
    let k = c.loop-k.k in
    let list = c.loop-k.list in
    let u = c.args.u.now in
    let p = c.args.place in
    let t = get_or u.arcs.to k 0 in
    let old = c.loop-k.invariant in
    let x : Told g.row.S.Denot g.row.V.Denot = record { arc = record { place = p; door = k }; to = t; label = u.label } in
    let more = drop_more u.arcs.to k 0 (omega arith) in
    elim c.if-to-ne0.branch [
      | then-to-ne0 w ↦ rw w.list-is (
        length-set list.arcs list.many x.arc ∙ old.0,
        length-set list.to list.many t ∙ old.1,
        omega (arith, old.2),
        λ us told place label is.
            let r = old.3 us told place label is in (
              r.0 ++ x ∷ [],
              told-push us list r.0 x (omega (arith, old.0, old.2)) (omega (arith, old.1, old.2)) place (omega arith) (ne_eqb u.label.down.lasts 0 c.if-u-eq0.false) label r.1,
              append_assoc r.0 (x ∷ []) _ ∙ ap (λ xs. r.0 ++ xs) (sym (doors-some p u.label k t (drop (k + 1) u.arcs.to) w.if-to-ne0.true) ∙ ap (told_doors p u.label k) (sym more)) ∙ r.2,
            ),
      )
      | else-to-ne0 w ↦ rw w.list-is (
        old.0,
        old.1,
        omega (arith, old.2),
        λ us told place label is.
            let r = old.3 us told place label is in (
              r.0,
              r.1,
              ap (λ xs. r.0 ++ xs) (ap (λ s. told_doors p u.label k (s ∷ drop (k + 1) u.arcs.to)) (sym w.if-to-ne0.false) ∙ ap (told_doors p u.label k) (sym more)) ∙ r.2,
            ),
      )
    ]
