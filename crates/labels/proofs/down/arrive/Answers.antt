use Rattle.std.proofs.Common.{◌≤◌, arith}
use Rattle.std.proofs.lemmas.Nat.{one_shl}
use Rattle.layers.specs.Labels.{arrival_over}
use Rattle.labels.proofs.Legs.{leg_most}
use Rattle.labels.proofs.down.arrive.Goals as goal

pub overflow_cast-finish : goal.overflow_cast-finish
overflow_cast-finish g c =
    let r = c.args.by.now.round.now in
    let short : c.args.drive ≤ 999 = omega (arith, leg_most r c.args.u.now.lasts c.args.j) in
    let late = c.finish-minute.ensures.laws.bound 15 c.args.u.now.finish c.args.drive c.args.j c.requires.finish_bound short in
    let same = c.finish-minute.ensures.value in
    record { fits = omega arith }

pub returns : goal.returns
unfolding arrival_over
returns g c = let b = one_shl c.args.j 32 (omega arith) in let f = c.finish-minute.ensures.value in cc
