use Rattle.std.proofs.Common.{ℕ, ⊎_elim, arith, subst, rules}
use Rattle.std.proofs.lemmas.Bool.{cases_lt}
use Rattle.std.proofs.lemmas.List.{get_or_past}
use Rattle.doors.specs.Sets.{Has}
use Rattle.doors.proofs.Sets.{has-none}
use Rattle.outlook.proofs.ChainLemmas.{leads_inside}
use Rattle.outlook.proofs.chains.doors_ahead.Goals as goal

pub returns : goal.returns
returns c = λ i j. (
  λ h. ⊎_elim
      (λ p. (c.loop-j.invariant i j (omega arith)).0 h)
      (λ p. absurd (has-none i (subst (λ (s : ℕ). Has s i) (get_or_past c.loop-j.set-items j 0 (omega arith)) h)))
      (cases_lt j 17),
  λ h. (c.loop-j.invariant i j (omega (arith, leads_inside c.args.ahead.now i h.0 j h.1))).1 h,
)

pub loop-j-preserved : goal.loop-j-preserved
loop-j-preserved c = search rules
