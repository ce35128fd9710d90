use Rattle.std.proofs.Common.{rules, ◌≡◌, arith, ◌-◌, [], ◌++◌, sym, ap, ◌∙◌}
use Rattle.std.proofs.Output.{has_written_append, has_written_of_eq}
use Rattle.std.proofs.lemmas.Bool.{cond-true, cond-false}
use Rattle.doors.specs.Sets.{has}
use Rattle.round_sheet.specs.Texts.{lines_behind, must_line}
use Rattle.round_sheet.proofs.SheetTexts.{lines_behind-more}
use Rattle.round_sheet.proofs.lines.LinesBehindDisplay.fmt.Goals as goal
use Rattle.round_sheet.proofs.lines.LinesBehindDisplay.fmt.Goals.{then-contains+in_ok-writeln, else-contains}

pub loop-j-init : goal.loop-j-init
unfolding lines_behind
loop-j-init g c = search rules

pub loop-j-preserved : goal.loop-j-preserved
loop-j-preserved g c = λ plain.
    let i = c.args.self.now.door in
    let set = c.args.self.now.behind in
    let j = c.loop-j.j-counter in
    let more = lines_behind-more i set j c.loop-j.auto.j-counter in
    elim c.if-contains.branch [
      | then-contains+in_ok-writeln w ↦
          let line = cond-true (has set j) (must_line i j) [] (sym c.contains.ensures ∙ w.if-contains.true) in
          has_written_of_eq _ _ _ _ _ (ap (λ t. lines_behind i set (j - 1) ++ t) (sym line) ∙ more)
          (has_written_append _ _ _ _ _ _ (c.loop-j.invariant plain) (search rules))
      | else-contains w ↦
          let line = cond-false (has set j) (must_line i j) [] (sym c.contains.ensures ∙ w.if-contains.false) in
          has_written_of_eq _ _ _ _ _ (ap (λ t. lines_behind i set (j - 1) ++ t) (sym line) ∙ more)
          (has_written_append _ _ _ _ _ _ (c.loop-j.invariant plain) (search rules))
    ]

pub returns-clause-writes : goal.returns-clause-writes
returns-clause-writes g c = let all : c.loop-j.j-counter ≡ 17 = omega arith in λ plain ok. rw all at (c.loop-j.invariant plain)
