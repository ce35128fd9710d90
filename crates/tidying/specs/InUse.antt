-- The nodes of a layer are its places in use, which stand first (`nodes_in`): the passes go over them alone. Nobody has to believe
-- these steps.
use Rattle.std.specs.Prelude.{List, ◌++◌, length, drop}
use Rattle.layers.specs.declared.node.Node.{Node}
use Rattle.layers.specs.Records.{nodes_in}

-- what f makes of the nodes of a layer, and then the places after them as they are
abbrev pub on_nodes : {S V : Type 0} → (List (Node S V) → List (Node S V)) → List (Node S V) → List (Node S V)
on_nodes f us = f (nodes_in us) ++ drop (length (nodes_in us)) us
