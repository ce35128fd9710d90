-- What refine may answer.
use Rattle.std.specs.Prelude.{ℕ, ◌<◌, ◌≤◌}
use Rattle.layers.specs.declared.refined.Refined.{Refined}
use Rattle.layers.specs.declared.refined.Refined.TheVariants.{Whole, Full}

-- a layer that was full lies between the first node and the end, in a diagram of n doors
abbrev pub IsInnerIfFull : ℕ → Refined → Type 0
IsInnerIfFull n Whole = Unit {0}
IsInnerIfFull n (Full i) = (1 ≤ i) × (i < n)
