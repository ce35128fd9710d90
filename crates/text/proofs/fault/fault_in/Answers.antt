use Rattle.std.proofs.Common.{arith, sym}
use Rattle.text.proofs.Texts.{read_step}
use Rattle.text.proofs.Stops.{reaches_next, refused, ended}
use Rattle.text.proofs.fault.fault_in.Goals as goal

pub returns-in-Err : goal.returns-in-Err
returns-in-Err c =
    let l = c.loop-bytes in
    refused _ _ _ c.in-Some.after.now l.number l.stage l.draft _ c.in-Some.ensures.parts l.invariant.short l.invariant.same l.invariant.reached
    (rw (c.in-Err.ensures.stays, c.new-line.ensures.number, c.new-line.ensures.bytes) at c.line_fault.ensures)

pub loop-bytes-preserved : goal.loop-bytes-preserved
loop-bytes-preserved c =
    let l = c.loop-bytes in
    record {
      short = l.invariant.short;
      ready = c.in-Ok.ensures.ready;
      numbered = omega (arith, c.in-Some.ensures.lengths);
      same = grind (arith, read_step l.rest.now c.in-Some.bytes.now c.in-Some.after.now l.number l.stage l.draft);
      reached = reaches_next _ _ _ c.in-Some.after.now l.number l.stage l.draft _ _ c.in-Some.ensures.parts (sym (rw (c.new-line.ensures.number, c.new-line.ensures.bytes) at c.in-Ok.ensures.step)) l.invariant.reached;
    }

pub returns : goal.returns
returns c =
    let l = c.loop-bytes in
    ended _ _ l.number l.stage l.draft _ c.in_default.ensures.parts l.invariant.short l.invariant.same l.invariant.reached (c.end_fault.ensures l.draft)
