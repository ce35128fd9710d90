-- The kinds of lines by their names.
use Rattle.std.specs.Prelude.{ℕ, List, codes, bytes_eq, if◌then◌else◌}
use Rattle.text.specs.declared.kind.Kind.{Kind}
use Rattle.text.specs.declared.kind.Kind.TheVariants.{Round, Door, Drive, First, Keeper, Other}

-- the kind that a field names
abbrev pub named : List ℕ → Kind
named f =
    if bytes_eq f (codes "round") then Round
    else if bytes_eq f (codes "door") then Door
    else if bytes_eq f (codes "drive") then Drive
    else if bytes_eq f (codes "first") then First
    else if bytes_eq f (codes "keeper") then Keeper
    else Other
