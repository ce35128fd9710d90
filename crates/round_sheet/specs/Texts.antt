-- The text of a sheet: lines of fields, with tabs between the fields and a line feed at the end of each line.
use Rattle.std.specs.Prelude.{ℕ, List, [], ◌∷◌, ◌++◌, codes, decimal, Option, None, Some, slice_index, if◌then◌else◌}
use Rattle.std.specs.List.{flat_map, range_with_len}
use Rattle.doors.specs.Sets.{has}
use Rattle.layers.specs.declared.refined.Refined.{Refined}
use Rattle.layers.specs.declared.refined.Refined.TheVariants.{Whole, Full}

-- the line of these fields
abbrev pub line_of : List (List ℕ) → List ℕ
line_of [] = 10 ∷ []
line_of (x ∷ []) = x ++ 10 ∷ []
line_of (x ∷ y ∷ ys) = x ++ 9 ∷ line_of (y ∷ ys)

-- the bound: its late doors and its late minutes
abbrev pub bound_line : Option (ℕ × ℕ) → List ℕ
bound_line None = line_of (codes "bound" ∷ codes "none" ∷ [])
bound_line (Some v) = line_of (codes "bound" ∷ decimal v.0 ∷ decimal v.1 ∷ [])

-- what refine answered: whole, or full and the layer that was full
abbrev pub refine_line : Refined → List ℕ
refine_line Whole = line_of (codes "refine" ∷ codes "whole" ∷ [])
refine_line (Full layer) = line_of (codes "refine" ∷ codes "full" ∷ decimal layer ∷ [])

-- door i has to come ahead of door j
abbrev pub must_line : ℕ → ℕ → List ℕ
must_line i j = line_of (codes "must" ∷ decimal i ∷ decimal j ∷ [])

-- a line for each of the doors 1 to k that have to come behind door i, where these are a set
unfoldable pub lines_behind : ℕ → ℕ → ℕ → List ℕ
lines_behind i set k = flat_map (λ j. if has set j then must_line i j else []) (range_with_len 1 k)

-- the same for each of the doors 1 to k, of the doors 1 to 16: by first, then by second door
unfoldable pub must_lines : List ℕ → ℕ → List ℕ
must_lines musts k = flat_map (λ i. lines_behind i (slice_index musts i) 16) (range_with_len 1 k)

-- the whole sheet
abbrev pub sheet_text : Option (ℕ × ℕ) → Refined → List ℕ → List ℕ
sheet_text bound refined musts = bound_line bound ++ refine_line refined ++ must_lines musts 16
