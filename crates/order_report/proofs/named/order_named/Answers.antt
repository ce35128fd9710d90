use Rattle.std.proofs.Common.{rules}
use Rattle.order_report.specs.declared.named.OrderFault.TheVariants.{NoDoor, Twice, Missing}
use Rattle.order_report.proofs.WordOrders.{named_doors, no_fault}
use Rattle.order_report.proofs.named.order_named.Goals as goal

pub returns-in-Err-clause-exact : goal.returns-in-Err-clause-exact
returns-in-Err-clause-exact c =
    ((λ e. cc), λ (w, o). absurd (no_fault c.args.round.now c.args.words.now w o (NoDoor c.in-Err.word c.args.round.now.n) (search rules)))

pub repeated-requires : goal.repeated-requires
repeated-requires c = rw c.as_slice.ensures.value (named_doors c.args.round.now.n c.args.words.now _ (search rules))

pub returns-in-Some-clause-exact : goal.returns-in-Some-clause-exact
returns-in-Some-clause-exact c =
    ((λ e. cc), λ (w, o). absurd (no_fault c.args.round.now c.args.words.now w o (Twice c.in-Some.door) (search rules)))

pub returns-in-Some-missing-clause-exact : goal.returns-in-Some-missing-clause-exact
returns-in-Some-missing-clause-exact c =
    ((λ e. cc), λ (w, o). absurd (no_fault c.args.round.now c.args.words.now w o (Missing c.in-Some-missing.door) (search rules)))

pub returns-in-Err-clause-fault : goal.returns-in-Err-clause-fault
returns-in-Err-clause-fault c = search rules
