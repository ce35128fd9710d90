use Rattle.std.proofs.Common.{◌≡◌, ◌-◌, ◌∙◌, ap, arith}
use Rattle.text.specs.Faults.{keeperless_doors}
use Rattle.text.proofs.fault.keeperless_doors.Goals as goal

pub returns : goal.returns
returns c =
    let all : c.loop-door.door - 1 ≡ c.args.n = omega arith in
    c.loop-door.invariant.so_far ∙ ap (λ k. keeperless_doors k c.args.keepers.now) all
