-- How a verdict reads.
use Rattle.std.specs.Prelude.{ℕ, List, ◌++◌, codes, decimal}
use Rattle.orders.specs.declared.verdict.Verdict as verdicts
use Rattle.orders.specs.declared.verdict.Verdict.TheVariants as is

-- whether the order is allowed, or its first fault and the door at which it is
abbrev pub verdict_line : verdicts.Verdict → List ℕ
verdict_line is.Allowed = codes "allowed\tyes"
verdict_line is.Incomplete = codes "allowed\tno\tincomplete"
verdict_line (is.Closes j) = codes "allowed\tno\tcloses\t" ++ decimal j
verdict_line (is.Breaks j) = codes "allowed\tno\trule\t" ++ decimal j
