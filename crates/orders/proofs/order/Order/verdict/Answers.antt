use Rattle.std.proofs.Common.{rules}
use Rattle.doors.proofs.Orders.{is-part}
use Rattle.orders.proofs.Verdicts.{judged}
use Rattle.orders.proofs.order.Order.verdict.Goals as goal

pub returns-then-self-clause-means : goal.returns-then-self-clause-means
returns-then-self-clause-means g c =
    let r = c.args.self.now.round.now in
    let w = c.args.self.now.doors.now in
    let rule = c.args.rule.now in
    λ serves. rw c.first_fault.ensures (judged r (g.R.Rule.sense rule) (g.R.Rule.keeps rule) (g.R.Rule.stands rule) (g.met.R.Rule.lawful rule r.n serves) w (is-part r.n w c.args.self.now.part) c.if-self.true)

pub returns-else-self-clause-value : goal.returns-else-self-clause-value
returns-else-self-clause-value g c = search rules

pub returns-else-self-clause-means : goal.returns-else-self-clause-means
returns-else-self-clause-means g c = search rules
