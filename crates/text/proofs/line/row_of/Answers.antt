use Rattle.std.proofs.Common.{◌∙◌, arith, length-set}
use Rattle.text.proofs.Texts.{row_step}
use Rattle.text.proofs.line.row_of.Goals as goal

pub loop-to-preserved : goal.loop-to-preserved
loop-to-preserved c = record {
  room = length-set _ _ _ ∙ c.loop-to.invariant.room;
  same = grind (arith, row_step c.args.n c.args.from c.loop-to.to);
}
