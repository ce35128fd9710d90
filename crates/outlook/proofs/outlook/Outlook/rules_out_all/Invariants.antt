-- None of the doors below j rules out every order.
use Rattle.std.proofs.Common.{◌≡◌, ◌<◌, ◌≤◌, ℕ, false}
use Rattle.outlook.specs.Reasons.{has_no_place}
use Rattle.outlook.proofs.outlook.Outlook.rules_out_all.Given as goal

abbrev pub invariant-loop-j : goal.invariant-loop-j
invariant-loop-j l = (k : ℕ) → 1 ≤ k → k < l.j → has_no_place l.self k ≡ false
