use Rattle.std.proofs.Common.{rules, arith}
use Rattle.outlook.proofs.ReasonLemmas.{reason_at, reason_last}
use Rattle.outlook.proofs.outlook.Outlook.rules_out_all.Goals as goal

pub returns-then-has_no_place-clause-value : goal.returns-then-has_no_place-clause-value
returns-then-has_no_place-clause-value c =
    reason_at c.args.self.now c.loop-j.j (record { low = omega arith; high = omega arith }) (search rules)

pub returns-clause-value : goal.returns-clause-value
returns-clause-value c =
    rw c.is_kept.ensures (reason_last c.args.self.now (λ j d. c.loop-j.invariant j d.low (omega (arith, d.high))))
