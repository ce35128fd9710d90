-- What is wrong with a refused text: what was due where reading stopped, and what stands there.
use Rattle.std.specs.Prelude.{◌≡◌, ◌≢◌, ◌⊎◌, true, IsOk, ℕ, suc, zero, ◌+◌, ◌-◌, ◌^◌, ◌<◌, ◌≤◌, List, [], ◌∷◌, ◌++◌, length, Option, None, Ok, Err, ◌==◌, bit_or, slice_index, slice_index_or, if◌then◌else◌}
use Rattle.std.specs.Result.{result_unwrap_or}
use Rattle.std.specs.Str.Parse.{digits_value}
use Rattle.doors.specs.Sets.{Has}
use Rattle.text.specs.Number.{plain, dash}
use Rattle.text.specs.declared.refusal.Refusal.{Refusal}
use Rattle.text.specs.declared.refusal.Refusal.TheVariants as why
use Rattle.text.specs.declared.kind.Kind.{Kind}
use Rattle.text.specs.declared.kind.Kind.TheVariants as kinds
use Rattle.text.specs.declared.stage.Stage.{Stage}
use Rattle.text.specs.declared.stage.Stage.TheVariants as stages
use Rattle.text.specs.declared.draft.Draft.{Draft}
use Rattle.text.specs.declared.flaw.Flaw.{Flaw}
use Rattle.text.specs.declared.fault.Due.{Due}
use Rattle.text.specs.declared.fault.Due.TheVariants as wanted
use Rattle.text.specs.declared.fault.Item.TheVariants as says
use Rattle.text.specs.declared.fault.Found.{Found}
use Rattle.text.specs.declared.fault.Found.TheVariants as stands
use Rattle.text.specs.declared.fault.Fault.{Fault}
use Rattle.text.specs.Pieces.{fields_in, lines_in}
use Rattle.text.specs.Kinds.{named}
use Rattle.text.specs.Codes.{field_of}
use Rattle.text.specs.Lines.{and_then, number_at, change_at}
use Rattle.text.specs.Steps.{Next, line_step}
use Rattle.text.specs.Drafts.{unread}
use Rattle.text.specs.Reading.{read_text, read_lines}
use Rattle.text.specs.Flaws.{flaw_in, change_flaw, line_flaw, end_flaw}

-- the doors 1 to n that have no keeper in the table, as a set
abbrev pub keeperless_doors : ℕ → List ℕ → ℕ
keeperless_doors zero keepers = 0
keeperless_doors (suc k) keepers =
    if slice_index keepers (suc k) == 0 then bit_or (keeperless_doors k keepers) (2 ^ suc k) else keeperless_doors k keepers

-- the number in field k, or 0 where none from low to high stands there
abbrev pub number_or_zero : List (List ℕ) → ℕ → ℕ → ℕ → ℕ
number_or_zero fs k low high = result_unwrap_or (number_at 0 fs k low high) 0

-- what is due in field k of the round line; a cap is not below the start load
abbrev pub due_in_head : List (List ℕ) → ℕ → Due
due_in_head fs k =
    if k == 2 then wanted.Number says.Doors 1 16
    else if k == 3 then wanted.Number says.StartLoad 0 999
    else if k == 4 then wanted.Number says.Cap (number_or_zero fs 3 0 999) 999
    else wanted.Number says.Grid 1 60

-- what is due in field k of the line of door j
abbrev pub due_in_door : ℕ → ℕ → Due
due_in_door j k =
    if k == 2 then wanted.Number says.Door j j
    else if k == 3 then wanted.Number (says.Opens j) 0 9999
    else if k == 4 then wanted.Number (says.Closes j) 0 9999
    else if k == 5 then wanted.Number (says.DueMinute j) 0 9999
    else if k == 6 then wanted.Number (says.Work j) 1 999
    else wanted.Change j

-- what is due in field k of the drives from place i
abbrev pub due_in_drive : ℕ → ℕ → Due
due_in_drive i k =
    if k == 2 then wanted.Number says.Place i i
    else if k == i + 2 then wanted.Dash i
    else wanted.Number (says.Drive i (k - 2)) 0 999

-- what is due in field k of a first line, where there are n doors
abbrev pub due_in_first : ℕ → List (List ℕ) → ℕ → Due
due_in_first n fs k =
    if k == 2 then wanted.Number says.First 1 n else wanted.OtherDoor (number_or_zero fs 2 1 n) n

-- what is due in field k of a keeper line, where there are n doors
abbrev pub due_in_keeper : ℕ → List ℕ → ℕ → Due
due_in_keeper n keepers k =
    if k == 2 then wanted.KeeperlessDoor (keeperless_doors n keepers) n else wanted.Number says.Keeper 1 99

-- what is due in field k of a line of that kind, once all drives are read
abbrev pub due_in_later : Kind → Draft → List (List ℕ) → ℕ → Due
due_in_later kinds.First d fs k = due_in_first d.n fs k
due_in_later _ d fs k = due_in_keeper d.n d.keepers k

-- what is due in field k of a line that comes at that stage
abbrev pub due_in_field : Stage → Draft → List (List ℕ) → ℕ → Due
due_in_field stages.Head d fs k = due_in_head fs k
due_in_field (stages.Doors j) d fs k = due_in_door j k
due_in_field (stages.Drives i) d fs k = due_in_drive i k
due_in_field s d fs k = due_in_later (named (slice_index_or fs 0 [])) d fs k

-- how many fields a line of that kind has, where there are n doors
abbrev pub fields_due : Kind → ℕ → Due
fields_due kinds.Round n = wanted.Fields kinds.Round 4 5
fields_due kinds.Door n = wanted.Fields kinds.Door 7 7
fields_due kinds.Drive n = wanted.Fields kinds.Drive (n + 2) (n + 2)
fields_due k n = wanted.Fields k 3 3

-- what was due, by the refusal of a line
abbrev pub due_at : Stage → Draft → List (List ℕ) → Refusal → Due
due_at s d fs (why.NotDue l) = wanted.Line s
due_at s d fs (why.FieldCount l) = fields_due (named (slice_index_or fs 0 [])) d.n
due_at s d fs (why.Unended l) = wanted.LineFeed
due_at s d fs why.TooLong = wanted.Shorter
due_at s d fs e = due_in_field s d fs (field_of e)

-- whether a line of that kind may come at a stage
abbrev pub IsKindDue : Stage → Kind → Type 0
IsKindDue stages.Head k = k ≡ kinds.Round
IsKindDue (stages.Doors j) k = k ≡ kinds.Door
IsKindDue (stages.Drives i) k = k ≡ kinds.Drive
IsKindDue stages.Pairs k = (k ≡ kinds.First) ⊎ (k ≡ kinds.Keeper)
IsKindDue stages.Keepers k = k ≡ kinds.Keeper

-- the bytes are a number from low to high
abbrev pub IsNumberIn : ℕ → ℕ → List ℕ → Type 0
IsNumberIn low high f = (plain f ≡ true) × (low ≤ digits_value 10 f) × (digits_value 10 f ≤ high)

-- a line with the fields fs is as due, where that is said of its field k; where a line feed or a shorter text is due, what is
-- read is never so
abbrev pub IsAsDue : Due → List (List ℕ) → ℕ → Type 0
IsAsDue (wanted.Line s) fs k = IsKindDue s (named (slice_index_or fs 0 []))
IsAsDue (wanted.Fields _ least most) fs k = (least ≤ length fs) × (length fs ≤ most)
IsAsDue (wanted.Number _ low high) fs k = IsNumberIn low high (slice_index_or fs (k - 1) [])
IsAsDue (wanted.Change j) fs k = IsOk (change_at 0 fs k)
IsAsDue (wanted.Dash i) fs k = dash (slice_index_or fs (k - 1) []) ≡ true
IsAsDue (wanted.OtherDoor than n) fs k =
    let f = slice_index_or fs (k - 1) [] in
    IsNumberIn 1 n f × (digits_value 10 f ≢ than)
IsAsDue (wanted.KeeperlessDoor free n) fs k =
    let f = slice_index_or fs (k - 1) [] in
    IsNumberIn 1 n f × Has free (digits_value 10 f)
IsAsDue _ fs k = ⊥

-- these bytes are what stands there
abbrev pub IsField : List ℕ → Found → Type 0
IsField bytes (stands.Field b) = b.now ≡ bytes
IsField bytes _ = ⊥

-- what stands there, by the refusal of a line
abbrev pub IsFoundIn : List (List ℕ) → Refusal → Found → Type 0
IsFoundIn fs (why.FieldCount l) x = x ≡ stands.Fields (length fs)
IsFoundIn fs e x = IsField (slice_index_or fs (field_of e - 1) []) x

-- the flaw of bytes that are no number, by what was due
abbrev pub number_flaw : Due → List ℕ → Option Flaw
number_flaw (wanted.Change j) bytes = change_flaw bytes
number_flaw _ bytes = flaw_in bytes

-- the flaw that a line shows, by its refusal
abbrev pub flaw_at : List ℕ → Due → Refusal → Option Flaw
flaw_at line d (why.NotDue l) = flaw_in (slice_index_or (fields_in line) 0 [])
flaw_at line d (why.FieldCount l) = line_flaw line
flaw_at line d (why.NotNumber l f) = number_flaw d (slice_index_or (fields_in line) (f - 1) [])
flaw_at line d e = None

-- the line p, of that number, is refused at stage s and with draft d, and this is what is wrong
pub record IsLineFault (p : List ℕ) (line : ℕ) (s : Stage) (d : Draft) (x : Fault) : Type 0 where
  pub refused : line_step s d line (fields_in p) ≡ Err x.refusal
  pub due : x.due ≡ due_at s d (fields_in p) x.refusal
  -- the line is not as due
  pub unmet : ¬ IsAsDue x.due (fields_in p) (field_of x.refusal)
  pub found : IsFoundIn (fields_in p) x.refusal x.found
  pub flaw : x.flaw ≡ flaw_at p x.due x.refusal

-- the text ends where a line is due
pub record IsEarlyEnd (line : ℕ) (s : Stage) (x : Fault) : Type 0 where
  pub refused : x.refusal ≡ why.NotDue line
  pub due : x.due ≡ wanted.Line s
  pub found : x.found ≡ stands.End
  pub flaw : x.flaw ≡ None

-- these bytes stand behind the last line feed
abbrev pub IsUnended : List ℕ → Found → Type 0
IsUnended bytes (stands.Unended b) = b.now ≡ bytes
IsUnended bytes _ = ⊥

-- no line feed ends the line p
pub record IsUnendedFault (p : List ℕ) (line : ℕ) (x : Fault) : Type 0 where
  pub refused : x.refusal ≡ why.Unended line
  pub due : x.due ≡ wanted.LineFeed
  pub found : IsUnended p x.found
  pub flaw : x.flaw ≡ end_flaw p

-- what is wrong behind the last line feed, where these bytes stand
abbrev pub IsFaultAtEnd : List ℕ → ℕ → Stage → Fault → Type 0
IsFaultAtEnd [] line s x = IsEarlyEnd line s x
IsFaultAtEnd (b ∷ p) line s x = IsUnendedFault (b ∷ p) line x

-- a text that ends so is refused, and this is what is wrong
pub record IsRefusedAtEnd (p : List ℕ) (line : ℕ) (s : Stage) (d : Draft) (x : Fault) : Type 0 where
  pub refused : read_lines (p ∷ []) line s d ≡ Err x.refusal
  pub fault : IsFaultAtEnd p line s x

-- what is wrong at the first of these pieces between line feeds, of which the last is no line
abbrev pub IsFaultAt : List (List ℕ) → ℕ → Stage → Draft → Fault → Type 0
IsFaultAt [] line s d x = ⊥
IsFaultAt (p ∷ []) line s d x = IsFaultAtEnd p line s x
IsFaultAt (p ∷ q ∷ ps) line s d x = IsLineFault p line s d x

-- the lines from that number on, which are all accepted, lead from a stage and a draft to others
abbrev pub after_lines : List (List ℕ) → ℕ → Stage → Draft → Next
after_lines [] line s d = Ok (s, d)
after_lines (p ∷ ps) line s d =
    and_then (line_step s d line (fields_in p)) (λ t. after_lines ps (line + 1) t.0 t.1)

-- the lines ahead of the fault are accepted, and the text goes on with what is wrong
pub record StopsAt (text : List ℕ) (x : Fault) : Type 0 where
  pub ahead : List (List ℕ)
  pub rest : List (List ℕ)
  pub stage : Stage
  pub draft : Draft
  pub lines : lines_in text ≡ ahead ++ rest
  pub reached : after_lines ahead 1 stages.Head unread ≡ Ok (stage, draft)
  pub here : IsFaultAt rest (length ahead + 1) stage draft x

-- the text has more than 16,384 bytes
abbrev pub too_long_fault : Fault
too_long_fault = record { refusal = why.TooLong; due = wanted.Shorter; found = stands.Longer; flaw = None }

-- x is what is wrong with the text
pub record IsFault (text : List ℕ) (x : Fault) : Type 0 where
  pub long : 16384 < length text → x ≡ too_long_fault
  -- a text that is not too long is refused so, and this is where
  pub refused : length text ≤ 16384 → read_text text ≡ Err x.refusal
  pub stops : length text ≤ 16384 → StopsAt text x

-- nothing is wrong with the text
pub record HasNoFault (text : List ℕ) : Type 0 where
  pub short : length text ≤ 16384
  pub draft : Draft
  pub read : read_text text ≡ Ok draft
