-- The bytes before this place are calls.
use Rattle.std.proofs.Common.{◌≡◌, true, is_some}
use Rattle.packed.specs.Requests.{first_requests}
use Rattle.packed.proofs.call.readable.Given as goal

abbrev pub invariant-loop-k : goal.invariant-loop-k
invariant-loop-k l = is_some (first_requests l.bytes l.k) ≡ true
