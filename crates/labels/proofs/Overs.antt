-- A part of a list
use Rattle.std.proofs.Common.{◌≡◌, ℕ, ◌+◌, ◌<◌, List, get_or, drop, ◌∙◌}
use Rattle.std.proofs.lemmas.List.{get_or-drop, get_or-take}
use Rattle.labels.specs.Passes.{part}

pub get_d_part : {X : Type 0} (at count : ℕ) (xs : List X) (k : ℕ) (d : X) → k < count → get_or (part at count xs) k d ≡ get_or xs (at + k) d
get_d_part at count xs k d h = get_or-take count (drop at xs) k d h ∙ get_or-drop at xs k d
