-- What the whole text gives: a draft, or the first refusal.
use Rattle.std.specs.Prelude.{ℕ, ◌+◌, List, [], ◌∷◌, length, Ok, Err, Result, ◌==◌, if◌then◌else◌}
use Rattle.text.specs.declared.refusal.Refusal.{Refusal}
use Rattle.text.specs.declared.refusal.Refusal.TheVariants.{NotDue, Unended}
use Rattle.text.specs.declared.stage.Stage.{Stage}
use Rattle.text.specs.declared.stage.Stage.TheVariants.{Head, Pairs, Keepers}
use Rattle.text.specs.declared.draft.Draft.{Draft}
use Rattle.text.specs.Pieces.{fields_in, lines_in}
use Rattle.text.specs.Lines.{and_then}
use Rattle.text.specs.Steps.{line_step}
use Rattle.text.specs.Drafts.{unread}

-- the text may end once all drives are read
abbrev pub at_end : Stage → Draft → ℕ → Result Draft Refusal
at_end Pairs d line = Ok d
at_end Keepers d line = Ok d
at_end s d line = Err (NotDue line)

-- the parts of the text between line feeds, line by line; what stands after the last line feed is no line
abbrev pub read_lines : List (List ℕ) → ℕ → Stage → Draft → Result Draft Refusal
read_lines [] line s d = at_end s d line
read_lines (p ∷ []) line s d = if length p == 0 then at_end s d line else Err (Unended line)
read_lines (p ∷ q ∷ ps) line s d =
    and_then (line_step s d line (fields_in p)) (λ t. read_lines (q ∷ ps) (line + 1) t.0 t.1)

-- the whole text, from its line 1
abbrev pub read_text : List ℕ → Result Draft Refusal
read_text text = read_lines (lines_in text) 1 Head unread
