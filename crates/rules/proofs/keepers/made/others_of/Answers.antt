use Rattle.std.proofs.Common.{◌^◌, arith}
use Rattle.std.proofs.lemmas.Bool.Decides.{nat_tests}
use Rattle.std.proofs.lemmas.List.{get_or_past}
use Rattle.std.proofs.lemmas.Nat.Bits.{bit_at_or, bit_at-pow_same, bit_at-pow_other}
use Rattle.rules.proofs.keepers.made.others_of.Goals as goal

pub loop-i-preserved : goal.loop-i-preserved
loop-i-preserved c k =
    let i = c.loop-i.i in
    grind (arith, nat_tests, c.loop-i.invariant k, bit_at_or c.loop-i.set (2 ^ i) k, bit_at-pow_same i, bit_at-pow_other i k)

pub returns : goal.returns
returns c k = grind (arith, nat_tests, c.loop-i.invariant k, get_or_past c.args.keepers.now k 0, c.told-keepers)
