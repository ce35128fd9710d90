-- Texts of several parts.
use Rattle.std.specs.Prelude.{ℕ, List, [], ◌∷◌, ◌++◌}

-- these parts, one behind the other
abbrev pub joined_text : List (List ℕ) → List ℕ
joined_text [] = []
joined_text (x ∷ []) = x
joined_text (x ∷ y ∷ ys) = x ++ joined_text (y ∷ ys)
