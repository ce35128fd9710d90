-- The latest finish so far, as a tally.
use Rattle.std.specs.Prelude.{ℕ, min, max, nat_le}
use Rattle.tallies.specs.Tallies.{TallySense}

-- what the tally answers: a value is the latest finish so far
abbrev pub latest_sense : TallySense ℕ
latest_sense = record { start = 0; step = λ v j leg finish. max v finish; not_above = nat_le; lesser = min }
