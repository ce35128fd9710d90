use Rattle.std.proofs.Common.{arith, sym, ◌∙◌}
use Rattle.doors.proofs.Sets.{has-true, has-false}
use Rattle.outlook.proofs.ChainLemmas.{pair_inside, widens_none, widens_more}
use Rattle.outlook.proofs.chains.widened.Goals as goal
use Rattle.outlook.proofs.chains.widened.Goals.{then-contains, else-contains}

pub loop-k-preserved : goal.loop-k-preserved
loop-k-preserved c =
    let so = c.loop-k.invariant in
    elim c.if-contains.branch [
      | then-contains w ↦ rw w.wider-is (widens_more _ _ _ _ (has-true _ _ (sym c.contains.ensures ∙ w.if-contains.true)) so)
      | else-contains w ↦ rw w.wider-is (widens_none _ _ _ _ (has-false _ _ (sym c.contains.ensures ∙ w.if-contains.false)) so)
    ]

pub returns-clause-pairs : goal.returns-clause-pairs
returns-clause-pairs c = λ i k h p. c.loop-k.invariant.pairs i k (omega (arith, pair_inside c.args.ahead.now i k p)) h p
