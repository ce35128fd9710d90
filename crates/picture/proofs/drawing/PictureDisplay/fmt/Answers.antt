use Rattle.std.proofs.Common.{rules, arith, ◌≡◌, List, ℕ, ◌++◌, codes, ap, ◌∙◌}
use Rattle.std.proofs.Output.{has_written_append, has_written_of_eq}
use Rattle.std.specs.Fmt.{HasWritten}
use Rattle.layers.specs.Calls.{layer}
use Rattle.diagram.specs.declared.room.Room.{Room}
use Rattle.diagram.specs.Reading.{records_in, round_in, width_in}
use Rattle.picture.specs.Tables.{Place}
use Rattle.picture.specs.Pictures.{group_text, layer_text, layers_text}
use Rattle.picture.proofs.Layers.{layers_text-more}
use Rattle.picture.proofs.drawing.PictureDisplay.fmt.Goals as goal

pub loop-layer-init : goal.loop-layer-init
unfolding layers_text
loop-layer-init g c = search rules

pub loop-layer-preserved : goal.loop-layer-preserved
loop-layer-preserved g c = λ plain.
    let form = c.args.self.now.0.now in
    let k = c.loop-layer.layer-counter in
    let ahead = layers_text (round_in form).n (width_in form) (records_in form) k in
    has_written_of_eq _ _ _ _ _ (ap (λ (xs : List Place). ahead ++ layer_text k xs) c.nodes_of-nodes.ensures ∙ layers_text-more (round_in form).n (width_in form) (records_in form) k)
    (has_written_append _ _ _ _ _ _ (c.loop-layer.invariant plain) (search rules))

pub returns-clause-writes : goal.returns-clause-writes
returns-clause-writes g c = λ plain ok.
    let took = g.W.Write.write_str_gives in
    let form = c.args.self.now.0.now in
    let n = (round_in form).n in
    let end = c.room.result.round.now.n in
    let same : end ≡ n = ap (λ (m : Room). m.round.now.n) c.room.ensures in
    let last : c.loop-layer.layer-counter ≡ n = omega arith in
    let xs = c.nodes_of.result.now in
    let opening : List ℕ = codes "digraph diagram {\n\tnode [shape=box];\n" in
    let closing : List ℕ = codes "}\n" in
    let all : ℕ → ℕ → List Place → List ℕ = λ k i ys. opening ++ (layers_text n (width_in form) (records_in form) k ++ (group_text i ys ++ closing)) in
    let p : HasWritten took c.args.f.now opening c.writeln.new.self = search rules in
    let r : HasWritten took c.loop-layer.f (group_text end xs ++ closing) c.writeln-2.new.self = search rules in
    has_written_of_eq _ _ _ _ _ (ap (λ k. all k end xs) last ∙ ap (all n end) c.nodes_of.ensures ∙ ap (λ i. all n i (layer n (width_in form) i (records_in form))) same)
    (has_written_append _ _ _ _ _ _ p (has_written_append _ _ _ _ _ _ (c.loop-layer.invariant p.plain) r))
