use Rattle.std.proofs.Common.{sym, subst, arith}
use Rattle.tidying.specs.Paths.{SamePaths}
use Rattle.tidying.proofs.Targets.{bare-from}
use Rattle.tidying.proofs.Words.{kept-exactly, same-paths}
use Rattle.tidying.proofs.tidy.tidy_all.Goals as goal

pub returns-clause-words : goal.returns-clause-words
returns-clause-words g c = kept-exactly c.args.w c.args.blank.now (bare-from c.args.blank.now c.requires.bare) (omega arith) c.args.n c.args.nodes.now

pub returns-clause-paths : goal.returns-clause-paths
returns-clause-paths g c =
    let z = c.args.blank.now in
    subst (λ ys. SamePaths c.args.w z c.args.n c.args.nodes.now ys) (sym c.tidy_from.ensures.records)
    (same-paths c.args.w z (bare-from z c.requires.bare) (omega arith) c.args.n c.args.nodes.now (omega arith))
