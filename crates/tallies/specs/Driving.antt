-- Driving: the legs, added, up to 1,000,000.
use Rattle.std.specs.Prelude.{if◌then◌else◌, ℕ, ◌+◌, min, nat_le}
use Rattle.tallies.specs.Tallies.{TallySense}

-- what the tally answers: a value is the minutes driven
abbrev pub driving_sense : TallySense ℕ
driving_sense = record {
  start = 0;
  step = λ v j leg finish. min (v + leg) 1000000;
  not_above = nat_le;
  lesser = λ a b. if nat_le a b then a else b;
}
