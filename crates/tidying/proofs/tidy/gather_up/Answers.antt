use Rattle.std.proofs.Common.{get_or, sym, ap, ◌∙◌, arith}
use Rattle.std.proofs.lemmas.List.{get_or_default}
use Rattle.std.proofs.lemmas.List.Filters.{FiltersInPlace-all, FiltersInPlace-more_set, FiltersInPlace-more_here, FiltersInPlace-more_no}
use Rattle.tidying.specs.Tidied.{lively}
use Rattle.tidying.proofs.tidy.gather_up.Goals as goal
use Rattle.tidying.proofs.tidy.gather_up.Goals.{then-lives, then-k-i, else-k-i, else-lives}

pub loop-i-preserved : goal.loop-i-preserved
loop-i-preserved g c =
    let us = c.loop-i.us in
    let i = c.loop-i.i in
    let r = c.index-us-i.result in
    let is = ap (get_or us i) c.index-us-i.is in
    elim c.if-lives.branch [
      | then-lives w ↦ elim w.if-k-i.branch [
        | then-k-i v ↦
            (let x = v.index-us-i-then-k-i in
            rw (w.us-is, w.k-is, v.us-is) (FiltersInPlace-more_set c.loop-i.invariant (omega arith) (ap lively (x.is ∙ get_or_default us i x.result r (omega arith)) ∙ sym c.lives.ensures ∙ w.if-lives.true) x.is))
        | else-k-i v ↦ rw (w.us-is, w.k-is, v.us-is) (FiltersInPlace-more_here c.loop-i.invariant (omega arith) (sym c.lives.ensures ∙ w.if-lives.true) is (omega arith))
      ]
      | else-lives w ↦ rw (w.us-is, w.k-is) (FiltersInPlace-more_no c.loop-i.invariant (omega arith) (sym c.lives.ensures ∙ w.if-lives.false) is)
    ]

pub returns-clause-front : goal.returns-clause-front
returns-clause-front g c = FiltersInPlace-all c.loop-i.invariant (omega arith)
