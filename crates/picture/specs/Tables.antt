-- A layer as a table, with tabs between the fields and a line feed at the end of each line.
use Rattle.std.specs.Prelude.{ℕ, List, [], ◌∷◌, ◌++◌, codes, decimal}
use Rattle.std.specs.Fmt.{signed_decimal}
use Rattle.rules.specs.Sides.{SideState}
use Rattle.layers.specs.declared.node.Node.{Node}
use Rattle.round_sheet.specs.Texts.{line_of}
use Rattle.picture.specs.Words.{numbered, set_text, arcs_text}

-- a record: its state is that of pairs, load and keepers together, its value is late doors and late minutes
abbrev pub Place : Type 0
Place = Node SideState (ℕ × ℕ)

-- node a of a layer
abbrev pub row_text : ℕ → Place → List ℕ
row_text a x =
    let down = x.label.down in
    let up = x.label.up in
    line_of (decimal a ∷ arcs_text x.arcs.to ∷ set_text down.all ∷ set_text down.some ∷ decimal down.finish ∷ set_text down.lasts
    ∷ set_text down.state.0.0 ∷ signed_decimal down.state.0.1.low ∷ signed_decimal down.state.0.1.high ∷ set_text down.state.1
    ∷ decimal down.value.0 ∷ decimal down.value.1 ∷ set_text up.allup ∷ set_text up.someup ∷ signed_decimal up.late ∷ [])

-- the nodes of a layer, below the names of the columns
abbrev pub table_text : List Place → List ℕ
table_text xs =
    codes "node\tarcs\tall\tsome\tfinish\tlasts\tvisited\tlow\thigh\tprevious\tdoors\tminutes\tallup\tsomeup\tlate\n" ++ numbered row_text xs
