use Rattle.std.proofs.Common.{subst, ⊎_elim, ℕ}
use Rattle.doors.specs.Sets.{Has}
use Rattle.outlook.proofs.ChainLemmas.{closed_has, chained-more}
use Rattle.outlook.proofs.chains.all_ahead.Goals as goal

pub returns-then-wider-set : goal.returns-then-wider-set
returns-then-wider-set c = λ i. (
  c.loop-set.invariant.only i,
  λ h. closed_has c.args.ahead.now c.loop-set.set c.args.j c.loop-set.invariant.pairs (λ k m a b. subst (λ (s : ℕ). Has s k) c.if-wider-set.true (c.widened-wider.ensures.pairs k m a b)) i h.0 h.1,
)

pub loop-set-preserved : goal.loop-set-preserved
loop-set-preserved c = record {
  pairs = λ i p. c.widened-wider.ensures.kept i (c.loop-set.invariant.pairs i p);
  only = λ i h. ⊎_elim (c.loop-set.invariant.only i) (λ b. chained-more c.args.ahead.now i b.0 c.args.j b.2 (c.loop-set.invariant.only b.0 b.1)) (c.widened-wider.ensures.only i h);
}
