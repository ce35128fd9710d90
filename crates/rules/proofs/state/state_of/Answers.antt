use Rattle.rules.proofs.States.{bars-exactly}
use Rattle.std.proofs.Common.{take_all}
use Rattle.rules.proofs.state.state_of.Goals as goal

pub returns-clause-exact : goal.returns-clause-exact
returns-clause-exact g c =
    let rule = c.args.rule.now in
    let w = c.args.doors.now in
    λ n j serves x k. rw (c.loop-j.invariant, take_all c.loop-j.j-index w c.loop-j-test.false) (bars-exactly (g.met.R.Rule.lawful rule n serves) w j x k)

pub loop-j-init : goal.loop-j-init
loop-j-init g c = c.start-s.ensures
