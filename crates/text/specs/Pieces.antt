-- Where bytes are cut.
use Rattle.std.specs.Prelude.{ℕ, List, ◌==◌}
use Rattle.std.specs.List.{slice_split}
use Rattle.std.specs.Str.{byte}

-- the pieces between the separators s: one more than there are separators
abbrev pub pieces : ℕ → List ℕ → List (List ℕ)
pieces s bs = slice_split (λ b. b == s) bs

-- the fields of a line
abbrev pub fields_in : List ℕ → List (List ℕ)
fields_in line = pieces (byte "\t") line

-- the lines of a text, and what stands after the last line feed
abbrev pub lines_in : List ℕ → List (List ℕ)
lines_in text = pieces (byte "\n") text
