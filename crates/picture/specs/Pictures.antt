-- A diagram in the DOT language: its layers from the first node on, each as a row of boxes, with the arcs that leave it.
use Rattle.std.specs.Prelude.{ℕ, ◌+◌, List, [], ◌∷◌, codes, decimal, ◌==◌, if◌then◌else◌}
use Rattle.std.specs.List.{flat_map, range_with_len}
use Rattle.layers.specs.Calls.{layer}
use Rattle.picture.specs.Words.{joined_text, numbered, set_text}
use Rattle.picture.specs.Tables.{Place}

-- the box of node a of layer i: its number, all and some, finish, and the value's late doors and late minutes
abbrev pub box_text : ℕ → ℕ → Place → List ℕ
box_text i a x =
    let down = x.label.down in
    joined_text (codes "\t\tn" ∷ decimal i ∷ codes "_" ∷ decimal a ∷ codes " [label=\"" ∷ decimal a
    ∷ codes "\\nall " ∷ set_text down.all ∷ codes "\\nsome " ∷ set_text down.some ∷ codes "\\nfinish " ∷ decimal down.finish
    ∷ codes "\\nvalue " ∷ decimal down.value.0 ∷ codes " " ∷ decimal down.value.1 ∷ codes "\"];\n" ∷ [])

-- the beginning of the row of layer i, with its name
abbrev pub head_text : ℕ → List ℕ
head_text i =
    joined_text (codes "\tsubgraph {\n\t\trank=same;\n\t\tlayer" ∷ decimal i
    ∷ codes " [shape=plaintext, label=\"layer " ∷ decimal i ∷ codes "\"];\n" ∷ [])

-- the row of layer i, which has these nodes
unfoldable pub group_text : ℕ → List Place → List ℕ
group_text i xs = joined_text (head_text i ∷ numbered (box_text i) xs ∷ codes "\t}\n" ∷ [])

-- the arc by door j from node a of layer i to node b of the next; 0 is no arc
abbrev pub arc_line : ℕ → ℕ → ℕ → ℕ → List ℕ
arc_line i a j b =
    if b == 0 then []
    else joined_text (codes "\tn" ∷ decimal i ∷ codes "_" ∷ decimal a ∷ codes " -> n" ∷ decimal (i + 1) ∷ codes "_" ∷ decimal b
    ∷ codes " [label=\"" ∷ decimal j ∷ codes "\"];\n" ∷ [])

-- the arcs by the doors 1, 2, .. that leave node a, where these are the numbers of their targets
abbrev pub arc_lines : ℕ → ℕ → List ℕ → List ℕ
arc_lines i a to = numbered (arc_line i a) to

-- the arcs that leave layer i
unfoldable pub arcs_after : ℕ → List Place → List ℕ
arcs_after i xs = numbered (λ a x. arc_lines i a x.arcs.to) xs

-- layer i with these nodes, its arcs, and an edge that is not seen, which keeps its row above the next
abbrev pub layer_text : ℕ → List Place → List ℕ
layer_text i xs =
    joined_text (group_text i xs ∷ arcs_after i xs
    ∷ codes "\tlayer" ∷ decimal i ∷ codes " -> layer" ∷ decimal (i + 1) ∷ codes " [style=invis];\n" ∷ [])

-- the first k layers of a diagram of n doors and width W in the records xs
unfoldable pub layers_text : ℕ → ℕ → List Place → ℕ → List ℕ
layers_text n W xs k = flat_map (λ i. layer_text i (layer n W i xs)) (range_with_len 0 k)

-- the whole diagram
abbrev pub picture_text : ℕ → ℕ → List Place → List ℕ
picture_text n W xs =
    joined_text (codes "digraph diagram {\n\tnode [shape=box];\n" ∷ layers_text n W xs n
    ∷ group_text n (layer n W n xs) ∷ codes "}\n" ∷ [])
