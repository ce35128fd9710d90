use Rattle.std.proofs.Common.{rules, arith, ◌+◌, ◌==◌, List, ℕ, [], ◌∷◌, ◌++◌, codes, decimal, slice_index, take, sym, ap, ◌∙◌}
use Rattle.std.proofs.Output.{has_written_append, has_written_of_eq}
use Rattle.std.proofs.lemmas.Bool.{cond-true, cond-false, ne_eqb}
use Rattle.std.proofs.lemmas.List.{append-nil}
use Rattle.picture.specs.Words.{joined_text, numbered}
use Rattle.picture.specs.Pictures.{arc_line}
use Rattle.picture.proofs.Spaced.{numbered-more}
use Rattle.picture.proofs.groups.NodeArcsDisplay.fmt.Goals as goal
use Rattle.picture.proofs.groups.NodeArcsDisplay.fmt.Goals.{then-target-ne0+in_ok-writeln, else-target-ne0}

pub loop-k-preserved : goal.loop-k-preserved
loop-k-preserved g c = λ plain.
    let i = c.args.self.now.layer in
    let a = c.args.self.now.number in
    let to = c.args.self.now.to in
    let k = c.loop-k.k in
    let b = slice_index to k in
    let line : List ℕ = joined_text (codes "\tn" ∷ decimal i ∷ codes "_" ∷ decimal a ∷ codes " -> n" ∷ decimal (i + 1) ∷ codes "_" ∷ decimal b
    ∷ codes " [label=\"" ∷ decimal (k + 1) ∷ codes "\"];\n" ∷ []) in
    let ahead = numbered (arc_line i a) (take k to) in
    let more = numbered-more (arc_line i a) to k 0 (omega arith) in
    let so = c.loop-k.invariant plain in
    elim c.if-target-ne0.branch [
      | then-target-ne0+in_ok-writeln w ↦
          let here = cond-false (b == 0) [] line (ne_eqb _ _ w.if-target-ne0.true) in
          has_written_of_eq _ _ _ _ _ (ap (λ (t : List ℕ). ahead ++ t) (sym here) ∙ more) (has_written_append _ _ _ _ _ _ so (search rules))
      | else-target-ne0 w ↦
          let none = cond-true (b == 0) [] line (ap (λ x. x == 0) w.if-target-ne0.false) in
          has_written_of_eq _ _ _ _ _ (sym (append-nil ahead) ∙ ap (λ (t : List ℕ). ahead ++ t) (sym none) ∙ more) (search (rules, so))
    ]
