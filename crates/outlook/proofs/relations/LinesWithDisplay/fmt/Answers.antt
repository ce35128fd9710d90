use Rattle.std.proofs.Common.{rules, arith, ◌≡◌, ◌+◌, ◌-◌, [], ◌++◌, slice_index, sym, ap, ◌∙◌}
use Rattle.std.proofs.Output.{has_written_append, has_written_of_eq}
use Rattle.std.proofs.lemmas.Bool.{cond-true, cond-false}
use Rattle.outlook.specs.Relations.{holds, relation_line, lines_with}
use Rattle.outlook.proofs.TextLemmas.{lines_with-more}
use Rattle.outlook.proofs.relations.LinesWithDisplay.fmt.Goals as goal
use Rattle.outlook.proofs.relations.LinesWithDisplay.fmt.Goals.{then-holds+in_ok-write, else-holds}

pub loop-i-init : goal.loop-i-init
unfolding lines_with
loop-i-init g c = search rules

pub loop-i-preserved : goal.loop-i-preserved
loop-i-preserved g c = λ plain.
    let x = c.args.self.now.relation in
    let o = c.args.self.now.outlook.now in
    let j = c.args.self.now.j in
    let i = c.loop-i.i in
    let here = relation_line x (slice_index o.round.now.keepers j) i j in
    let more = lines_with-more x o j i c.loop-i.auto.i in
    elim c.if-holds.branch [
      | then-holds+in_ok-write w ↦
          let line = cond-true (holds x o i j) here [] (sym c.holds.ensures ∙ w.if-holds.true) in
          has_written_of_eq _ _ _ _ _ (ap (λ t. lines_with x o j (i - 1) ++ t) (sym line) ∙ more)
          (has_written_append _ _ _ _ _ _ (c.loop-i.invariant plain) (search rules))
      | else-holds w ↦
          let line = cond-false (holds x o i j) here [] (sym c.holds.ensures ∙ w.if-holds.false) in
          has_written_of_eq _ _ _ _ _ (ap (λ t. lines_with x o j (i - 1) ++ t) (sym line) ∙ more)
          (has_written_append _ _ _ _ _ _ (c.loop-i.invariant plain) (search rules))
    ]

pub returns-clause-writes : goal.returns-clause-writes
returns-clause-writes g c =
    let all : c.loop-i.i ≡ c.args.self.now.outlook.now.round.now.n + 1 = omega arith in
    λ plain ok. has_written_of_eq _ _ _ _ _ (ap (lines_with _ _ _) (omega arith)) (c.loop-i.invariant plain)
