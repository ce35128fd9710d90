use Rattle.std.proofs.Common.{arith}
use Rattle.tidying.proofs.Marks.{sent_more}
use Rattle.tidying.proofs.tidy.mark_next.Goals as goal

pub loop-a-preserved : goal.loop-a-preserved
loop-a-preserved g c =
    let l = c.loop-a in
    grind (arith, sent_more c.args.from.now c.args.us.now l.marks l.a c.index-us-a.result (omega arith) (omega arith) c.index-us-a.is)
