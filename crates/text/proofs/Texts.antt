-- One line more of a text, and the stage after it.
use Rattle.std.proofs.Common.{◌≡◌, ℕ, suc, ◌+◌, ◌-◌, ◌<◌, ◌≤◌, nat_eq, nat_lt, slice_index, slice_set, List, [], ◌∷◌, length, refl, arith}
use Rattle.std.specs.Bool.{if◌then◌else◌}
use Rattle.std.proofs.lemmas.Bool.Decides.{nat_tests}
use Rattle.std.proofs.lemmas.List.Splits.{length-slice_split}
use Rattle.text.specs.declared.stage.Stage.{Stage}
use Rattle.text.specs.declared.stage.Stage.TheVariants.{Doors, Drives, Pairs}
use Rattle.text.specs.declared.draft.Draft.{Draft}
use Rattle.text.specs.declared.line.Keeper.{Keeper}
use Rattle.text.specs.Pieces.{pieces, fields_in, lines_in}
use Rattle.text.specs.Lines.{and_then, leg_in, row_from}
use Rattle.text.specs.Steps.{line_step}
use Rattle.text.specs.Reading.{read_lines}

-- there is a piece
pub some-piece : (s : ℕ) (a : List ℕ) → 0 < length (pieces s a)
some-piece s a = omega (arith, length-slice_split (λ b. nat_eq b s) a)

-- the first of the lines, and those after it
read_more : (p : List ℕ) (ps : List (List ℕ)) (line : ℕ) (s : Stage) (d : Draft) → 0 < length ps → read_lines (p ∷ ps) line s d ≡ and_then (line_step s d line (fields_in p)) (λ t. read_lines ps (line + 1) t.0 t.1)
read_more p [] line s d l = absurd (omega arith)
read_more p (q ∷ ps) line s d l = refl

-- the first line of a text, and the rest of the text
pub read_step : (text p rest : List ℕ) (line : ℕ) (s : Stage) (d : Draft) → lines_in text ≡ p ∷ lines_in rest → read_lines (lines_in text) line s d ≡ and_then (line_step s d line (fields_in p)) (λ t. read_lines (lines_in rest) (line + 1) t.0 t.1)
read_step text p rest line s d cut = rw cut (read_more p (lines_in rest) line s d (some-piece 10 rest))

-- the stage where door k of n is the next, or none is left
abbrev pub doors_from : ℕ → ℕ → Stage
doors_from n k = if nat_lt n k then Drives 0 else Doors k

-- the stage where the drives from place k are the next, or none are left
abbrev pub drives_from : ℕ → ℕ → Stage
drives_from n k = if nat_lt n k then Pairs else Drives k

-- after number k of n the next is due, or none is left
pub after : (n k : ℕ) (next end : Stage) → (if nat_lt k n then next else end) ≡ (if nat_lt n (k + 1) then end else next)
after n k next end = grind (arith, nat_tests)

-- the door has no keeper in the table
abbrev pub HasNone : List ℕ → Keeper → Type 0
HasNone table k = slice_index table k.door ≡ 0

-- the drives to the doors from j on: that to j, and those to the doors after it
pub row_step : (n i j line : ℕ) (fs : List (List ℕ)) (row : List ℕ) → j ≤ n → row_from (n + 1 - j) i j line fs row ≡ and_then (leg_in i j line fs) (λ leg. row_from (n + 1 - (j + 1)) i (j + 1) line fs (slice_set row j leg))
row_step n i j line fs row l =
    let one : n + 1 - j ≡ suc (n - j) = omega arith in
    let two : n + 1 - (j + 1) ≡ n - j = omega arith in
    rw (one, two)
