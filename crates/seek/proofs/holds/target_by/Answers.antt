use Rattle.std.proofs.Common.{arith, ◌∙◌}
use Rattle.std.proofs.lemmas.Bool.Decides.{nat_tests}
use Rattle.seek.proofs.Along.{past-places, target-of, no-target}
use Rattle.seek.proofs.holds.target_by.Goals as goal

pub returns-then-not-contains : goal.returns-then-not-contains
returns-then-not-contains g c = no-target c.args.n c.args.us.now c.args.place c.args.door (λ a b. grind (arith, nat_tests))

pub returns-then-place-us : goal.returns-then-place-us
returns-then-place-us g c = c.from.ensures ∙ target-of c.args.n c.args.us.now c.args.place c.index-us-place.result c.args.door (omega arith) (grind (arith, nat_tests)) (grind (arith, nat_tests))

pub returns-else-place-us : goal.returns-else-place-us
returns-else-place-us g c = past-places c.args.n c.args.us.now c.args.place c.args.door (omega arith)
