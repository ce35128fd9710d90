use Rattle.std.proofs.Common.{rules, ◌++◌, ◌∷◌, [], List, ℕ, decimal, append_assoc}
use Rattle.std.proofs.Output.{has_written_append, has_written_of_eq}
use Rattle.std.specs.Fmt.{HasWritten, signed_decimal}
use Rattle.round_sheet.specs.Texts.{line_of}
use Rattle.picture.specs.Words.{arcs_text, set_text}
use Rattle.picture.proofs.table.NodeRowDisplay.fmt.Goals as goal

-- fields with a tab behind each
abbrev cells : List (List ℕ) → List ℕ
cells [] = []
cells (x ∷ xs) = x ++ 9 ∷ cells xs

pub returns-clause-writes : goal.returns-clause-writes
returns-clause-writes g c = λ plain ok.
    let took = g.W.Write.write_str_gives in
    let x = c.args.self.now.node.now in
    let down = x.label.down in
    let up = x.label.up in
    let first = cells (decimal c.args.self.now.number ∷ arcs_text x.arcs.to ∷ set_text down.all ∷ set_text down.some ∷ decimal down.finish ∷ []) in
    let second = cells (set_text down.lasts ∷ set_text down.state.0.0 ∷ signed_decimal down.state.0.1.low ∷ signed_decimal down.state.0.1.high ∷ set_text down.state.1 ∷ []) in
    let third = line_of (decimal down.value.0 ∷ decimal down.value.1 ∷ set_text up.allup ∷ set_text up.someup ∷ signed_decimal up.late ∷ []) in
    let p : HasWritten took c.args.f.now first c.write.new.self = search rules in
    let q : HasWritten took c.write.new.self second c.write-2.new.self = search rules in
    let r : HasWritten took c.write-2.new.self third c.writeln.new.self = search rules in
    has_written_of_eq _ _ _ _ _ (simp append_assoc) (has_written_append _ _ _ _ _ _ p (has_written_append _ _ _ _ _ _ q r))
