use Rattle.std.proofs.Common.{◌≡◌, arith}
use Rattle.seek.specs.Rows.{is_behind}
use Rattle.seek.proofs.DoorsBehind.{one_more}
use Rattle.seek.proofs.must.behind.Goals as goal

pub loop-j-preserved : goal.loop-j-preserved
loop-j-preserved c = grind (arith, one_more (is_behind c.args.n c.args.after.now c.args.i) c.loop-j.j)

pub returns : goal.returns
returns c = let all : c.loop-j.j ≡ 17 = omega arith in rw all at c.loop-j.invariant
