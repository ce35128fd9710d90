-- Which line may come next, and what it does.
use Rattle.std.specs.Prelude.{ℕ, ◌+◌, ◌≤◌, List, [], Ok, Err, Result, nat_lt, slice_index_or, if◌then◌else◌}
use Rattle.text.specs.declared.refusal.Refusal.{Refusal}
use Rattle.text.specs.declared.refusal.Refusal.TheVariants.{NotDue}
use Rattle.text.specs.declared.kind.Kind.{Kind}
use Rattle.text.specs.declared.kind.Kind.TheVariants.{Round, Door, Drive, First, Keeper}
use Rattle.text.specs.declared.stage.Stage.{Stage}
use Rattle.text.specs.declared.stage.Stage.TheVariants.{Head, Doors, Drives, Pairs, Keepers}
use Rattle.text.specs.declared.draft.Draft.{Draft}
use Rattle.text.specs.Kinds.{named}
use Rattle.text.specs.Lines.{and_then, head_of, door_due, row_due, pair_of, keeper_of}
use Rattle.text.specs.Drafts.{with_head, with_door, with_row, with_pair, with_keeper}

-- what a stage asks of the draft
abbrev pub Ready : Stage → Draft → Type 0
Ready Head d = d.n ≤ 16
Ready (Doors k) d = (k ≤ d.n) × (d.n ≤ 16) × (1 ≤ k)
Ready (Drives k) d = (k ≤ d.n) × (d.n ≤ 16)
Ready Pairs d = d.n ≤ 16
Ready Keepers d = d.n ≤ 16

-- what a line leads to: a stage and a draft, or a refusal
abbrev pub Next : Type 0
Next = Result (Stage × Draft) Refusal

-- a stage that is reached, with the draft
abbrev pub went : Result Stage Refusal → Draft → Next
went (Ok s) d = Ok (s, d)
went (Err e) d = Err e

-- the line of a keeper, which ends those of pairs
abbrev pub keeper_step : Draft → ℕ → List (List ℕ) → Next
keeper_step d line fs = and_then (keeper_of d.n d.keepers line fs) (λ k. Ok (Keepers, with_keeper d k))

-- what a line of the kind that is due leads to; any other kind is refused. After the round line
-- door 1 is due, after the last door the drives from the yard, after the last drives any pairs
-- and then any keepers; the first keeper ends the pairs
abbrev pub kind_step : Stage → Kind → Draft → ℕ → List (List ℕ) → Next
kind_step Head Round d line fs = and_then (head_of line fs) (λ h. Ok (Doors 1, with_head d h))
kind_step (Doors k) Door d line fs =
    and_then (door_due d.n k line fs) (λ x.
    Ok (if nat_lt k d.n then Doors (k + 1) else Drives 0, with_door d k x))
kind_step (Drives k) Drive d line fs =
    and_then (row_due d.n k line fs) (λ row.
    Ok (if nat_lt k d.n then Drives (k + 1) else Pairs, with_row d k row))
kind_step Pairs First d line fs = and_then (pair_of d.n line fs) (λ p. Ok (Pairs, with_pair d p))
kind_step Pairs Keeper d line fs = keeper_step d line fs
kind_step Keepers Keeper d line fs = keeper_step d line fs
kind_step s k d line fs = Err (NotDue line)

-- a line with those fields
abbrev pub line_step : Stage → Draft → ℕ → List (List ℕ) → Next
line_step s d line fs = kind_step s (named (slice_index_or fs 0 [])) d line fs
