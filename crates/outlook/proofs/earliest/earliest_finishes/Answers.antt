use Rattle.std.proofs.Common.{ℕ, arith, subst}
use Rattle.outlook.proofs.Ways.{within_first, within_more, within_all, IsEarliestWithin}
use Rattle.outlook.proofs.earliest.earliest_finishes.Goals as goal

pub loop-init : goal.loop-init
loop-init c = let made = c.ends_from_yard-ends in record { doors = within_first c.args.round.now made.result made.ensures.doors; others = made.ensures.others }

pub loop-preserved : goal.loop-preserved
loop-preserved c =
    let made = c.improved-ends in
    record { doors = within_more c.args.round.now c.loop.counter c.loop.ends (omega arith) c.loop.invariant.doors made.result made.ensures.doors; others = made.ensures.others }

pub returns-clause-doors : goal.returns-clause-doors
returns-clause-doors c =
    let r = c.args.round.now in
    within_all r c.loop.ends (subst (λ (k : ℕ). IsEarliestWithin r k c.loop.ends) (omega (arith, r.one)) c.loop.invariant.doors)
