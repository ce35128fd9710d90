use Rattle.std.proofs.Common.{arith}
use Rattle.text.proofs.Texts.{read_step}
use Rattle.text.proofs.text.draft_of.Goals as goal

pub returns-in_err-stage : goal.returns-in_err-stage
returns-in_err-stage c =
    let l = c.loop-bytes in
    grind (arith, read_step l.rest.now c.in-Some.bytes.now c.in-Some.after.now l.number l.stage l.draft)

pub loop-bytes-preserved : goal.loop-bytes-preserved
loop-bytes-preserved c =
    let l = c.loop-bytes in
    record {
      ready = c.in_ok-stage.ensures.ready;
      numbered = omega (arith, c.in-Some.ensures.lengths);
      same = grind (arith, read_step l.rest.now c.in-Some.bytes.now c.in-Some.after.now l.number l.stage l.draft);
    }
