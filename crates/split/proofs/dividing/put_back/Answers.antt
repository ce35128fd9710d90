use Rattle.std.proofs.Common.{arith}
use Rattle.split.proofs.InArcs.{place_in, door_in}
use Rattle.split.proofs.dividing.put_back.Goals as goal

pub put_arc-requires : goal.put_arc-requires
put_arc-requires g c =
    let lt = c.loop-m-test.true in
    record { place_in_bounds = omega (arith, place_in _ _ c.loop-m.m (record { place = 0; door = 0 }) c.requires lt, c.loop-m.auto.us); door_bound = door_in _ _ c.loop-m.m _ c.requires lt }
