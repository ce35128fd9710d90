use Rattle.std.proofs.Common.{◌≡◌, ◌+◌, ◌-◌, ◌≤◌}
use Rattle.text.specs.Faults.{keeperless_doors}
use Rattle.text.proofs.fault.keeperless_doors.Given as goal

abbrev pub invariant-loop-door : goal.invariant-loop-door
invariant-loop-door l = record {
  some : 1 ≤ l.door;
  most : l.door ≤ l.n + 1;
  so_far : l.set ≡ keeperless_doors (l.door - 1) l.keepers;
}
