-- How many arcs leave a record, and several, as the code counts them. Nobody has to believe it: on the records of a diagram it is
-- the `count_arcs` of layers.
use Rattle.std.specs.Prelude.{ℕ, List, sum_by}
use Rattle.layers.specs.declared.node.Node.{Node}
use Rattle.layers.specs.Net.{count_doors}
use Rattle.layers.specs.Targets.{targets}

-- of a record: its targets that are not 0
unfoldable pub arcs_of : {S V : Type 0} → Node S V → ℕ
unfolding targets count_doors
arcs_of x = count_doors (targets x)

-- of all these records together
abbrev pub arcs_within : {S V : Type 0} → List (Node S V) → ℕ
arcs_within = sum_by arcs_of
