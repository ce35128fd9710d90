use Rattle.std.proofs.Common.{ℕ, zero, suc, ◌≤◌, set, replicate, pos, negsuc, ◌≤ℤ◌, refl, arith, rules}
use Rattle.round.specs.declared.door.Door.{Door}
use Rattle.round.specs.Tables.{blank, new_door, at}
use Rattle.round.proofs.Fresh.{all_same, each-fresh, no-leg}
use Rattle.round.proofs.table.Round.fresh.Goals as goal

some-work : (j : ℕ) → 1 ≤ j → j ≤ 1 → 1 ≤ (at (set (replicate 17 blank) 1 new_door) j).work
some-work zero a b = absurd (omega arith)
some-work (suc zero) a b = omega arith
some-work (suc (suc j)) a b = absurd (omega arith)

pub invariant_of-result : goal.invariant_of-result
invariant_of-result c = record {
  one = omega arith;
  most = omega arith;
  within = omega arith;
  small = omega arith;
  grid_one = omega arith;
  grid_most = omega arith;
  opens = each-fresh (λ (d : Door). d.opens ≤ 9999) (omega arith) (omega arith);
  closes = each-fresh (λ (d : Door). d.closes ≤ 9999) (omega arith) (omega arith);
  due = each-fresh (λ (d : Door). d.due ≤ 9999) (omega arith) (omega arith);
  some = some-work;
  work = each-fresh (λ (d : Door). d.work ≤ 999) (omega arith) (omega arith);
  low = each-fresh (λ (d : Door). negsuc 98 ≤ℤ d.change) (record { le = tt }) (record { le = tt });
  high = each-fresh (λ (d : Door). d.change ≤ℤ pos 99) (record { le = tt }) (record { le = tt });
  legs = λ i j. omega (arith, no-leg 17 17 i j);
  own = λ j. no-leg 17 17 j j;
  keeper_most = λ j. omega (arith, all_same {A = ℕ} 17 0 j);
  keeper_yard = refl;
}

pub returns-clause-cap : goal.returns-clause-cap
returns-clause-cap c = search rules
