-- What it is for a list to have room for a diagram.
use Rattle.std.proofs.Common.{◌≡◌, ℕ, ◌+◌, ◌-◌, ◌*◌, ◌<◌, ◌≤◌, true, ◌&&◌, leb, le_trans, mul-le-mul_right, arith}
use Rattle.std.proofs.lemmas.Bool.Decides.{nat_tests}
use Rattle.labels.specs.Passes.{fits}
use Rattle.labels.proofs.Rests.{layers_in}

pub record Roomed (n w long : ℕ) : Type 0 where
  pub low : 1 ≤ w
  pub high : w ≤ 128
  pub enough : n * w + 1 ≤ long

pub room-facts : (n w long : ℕ) → fits n w long ≡ true → Roomed n w long
room-facts n w long e = record { low = grind (arith, nat_tests); high = grind (arith, nat_tests); enough = grind (arith, nat_tests) }

pub room-from : (n w long : ℕ) → 1 ≤ w → w ≤ 128 → n * w + 1 ≤ long → fits n w long ≡ true
room-from n w long a b c = grind (arith, nat_tests)

pub few-records : (n w : ℕ) → n ≤ 16 → w ≤ 128 → n * w ≤ 2048
few-records n w a b = le_trans (mul-le-mul_right w a) (omega arith)

-- where there is a layer i after the first node
pub follow-facts : (i n w long : ℕ) → fits n w long && (leb 1 i && leb i n) ≡ true → (i - 1) * w + w + (n - i) * w < long
follow-facts i n w long e = grind (arith, nat_tests, layers_in i n w)
