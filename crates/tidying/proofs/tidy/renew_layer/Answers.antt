use Rattle.std.proofs.Common.{◌≡◌, ◌≢◌, ◌+◌, false, get_or, sym, ap, arith, ◌∙◌}
use Rattle.std.proofs.lemmas.List.{get_or_read, get_or-set_other}
use Rattle.std.proofs.lemmas.List.Edits.{fill_by_more}
use Rattle.std.proofs.lemmas.List.FromFn.{fill_by_all}
use Rattle.std.proofs.lemmas.List.Sums.{sum_by-set}
use Rattle.tidying.specs.Counted.{arcs_of}
use Rattle.tidying.specs.Tidied.{renew_at, renewed, renewals}
use Rattle.tidying.proofs.tidy.renew_layer.Goals as goal

pub loop-a-preserved : goal.loop-a-preserved
loop-a-preserved g c =
    let z = c.args.blank in
    let us = c.loop-a.us in
    let a = c.loop-a.a in
    let y = c.renew_if-lost.new.x in
    let read = sym c.index-us-a.is ∙ get_or_read us a c.index-us-a.result (omega arith) c.index-us-a.is z ∙ c.loop-a.invariant.rest a (omega arith) in
    let here : y ≡ renew_at z c.args.from.now c.args.new.now c.args.us.now a = c.renew_if-lost.ensures.renewed ∙ ap (renewed z (get_or c.args.from.now (a + 1) false) c.args.new.now) read in
    record {
      done = rw here (fill_by_more (renew_at z c.args.from.now c.args.new.now c.args.us.now) us a z (omega arith) c.loop-a.invariant.done);
      rest = λ k ge. (let ne : k ≢ a = omega arith in get_or-set_other us a k y z ne ∙ c.loop-a.invariant.rest k (omega arith));
      lost = omega (arith, c.loop-a.invariant.lost, c.renew_if-lost.ensures.lost, sum_by-set arcs_of us a y c.index-us-a.result (omega arith), ap arcs_of c.index-us-a.is);
      few = omega (arith, c.renew_if-lost.ensures.few, c.loop-a.invariant.few);
    }

pub returns-clause-renewed : goal.returns-clause-renewed
unfolding renewals
returns-clause-renewed g c =
    let z = c.args.blank in
    fill_by_all (renew_at z c.args.from.now c.args.new.now c.args.us.now) c.loop-a.us _ z (omega arith) (λ k lt. c.loop-a.invariant.done k (omega (arith, lt)))
