-- The calls that bytes are: 16 bytes each, one call after the other.
use Rattle.std.specs.Prelude.{ℕ, zero, suc, ◌+◌, ◌*◌, ◌/◌, ◌%◌, List, [], ◌∷◌, ◌++◌, length, Some, None, Option, ◌==◌, unwrap_or, if◌then◌else◌}
use Rattle.layers.specs.declared.call.Call.{Call}
use Rattle.layers.specs.declared.call.Call.TheVariants.{Sweep, Part, Join, Cut, Refine, Backsweep}
use Rattle.packed.specs.Words.{word_at}

-- a call on a diagram; a ceiling is late doors and late minutes
abbrev pub Request : Type 0
Request = Call (ℕ × ℕ)

-- the call of this kind with these three words behind; none if there is no such kind
abbrev pub request : ℕ → ℕ → ℕ → ℕ → Option Request
request kind x y z =
    if kind == 1 then Some Sweep
    else if kind == 2 then Some (Part x y)
    else if kind == 3 then Some (Join x y z)
    else if kind == 4 then Some (Cut (x, y))
    else if kind == 5 then Some Refine
    else if kind == 6 then Some Backsweep
    else None

-- the call in the 16 bytes from place k on
abbrev pub request_at : List ℕ → ℕ → Option Request
request_at bs k = request (word_at bs k) (word_at bs (k + 4)) (word_at bs (k + 8)) (word_at bs (k + 12))

-- the list and one call more, if both are there
abbrev pub with_last : Option (List Request) → Option Request → Option (List Request)
with_last None c = None
with_last (Some cs) None = None
with_last (Some cs) (Some c) = Some (cs ++ c ∷ [])

-- the first k calls; none if one of them is no call
unfoldable pub first_requests : List ℕ → ℕ → Option (List Request)
first_requests bs zero = Some []
first_requests bs (suc k) = with_last (first_requests bs k) (request_at bs (k * 16))

-- the calls that the bytes are; none if they are no calls
abbrev pub requests_of : List ℕ → Option (List Request)
requests_of bs = if length bs % 16 == 0 then first_requests bs (length bs / 16) else None

-- the same, where they are calls
abbrev pub requests_in : List ℕ → List Request
requests_in bs = unwrap_or (requests_of bs) []
