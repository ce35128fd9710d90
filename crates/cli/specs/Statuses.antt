-- The number of each status.
use Rattle.std.specs.Prelude.{ℕ}
use Rattle.cli.specs.declared.output.Status as statuses
use Rattle.cli.specs.declared.output.Status.TheVariants.{Answered, Refused, Misused, Unread}

-- what a program's process ends with
abbrev pub number_of : statuses.Status → ℕ
number_of Answered = 0
number_of Refused = 1
number_of Misused = 2
number_of Unread = 3
