use Rattle.std.proofs.Common.{arith}
use Rattle.seek.proofs.Views.{added-ends, added-none}
use Rattle.seek.proofs.onward.Onward.add.Goals as goal

pub returns-then-below : goal.returns-then-below
returns-then-below c = λ i j. added-ends i j c.args.door c.args.self.now c.args.below.now c.unite.new.sets (omega arith) c.unite.ensures c.with-self.result c.if-below.true (c.with-self.ensures.added (omega arith))

pub returns-else-below : goal.returns-else-below
returns-else-below c = λ i j. added-none i j c.args.door c.args.self.now c.args.below.now c.unite.new.sets (omega arith) c.unite.ensures c.if-below.false
