use Rattle.round.specs.declared.table.Round.{Round}
use Rattle.orders.specs.Allowed.{IsAllowed}
use Rattle.allowed.specs.Orders.{IsAllowedOrder, KeepsRules}
use Rattle.allowed.proofs.allowed_means.Goals as goal

pub returns : goal.returns
returns c r w = (
  λ a. record { part = a.full.part; whole = a.full.whole; keeps = ((a.ordered, a.within), a.spaced); timely = a.timely },
  λ a. record { full = record { part = a.part; whole = a.whole }; ordered = a.keeps.0.0; within = a.keeps.0.1; spaced = a.keeps.1; timely = a.timely },
)
