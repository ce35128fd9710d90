use Rattle.std.proofs.Common.{rules, arith, ap}
use Rattle.std.proofs.Output.{has_written_append, has_written_of_eq}
use Rattle.outlook.specs.Relations.{relation_lines}
use Rattle.outlook.proofs.TextLemmas.{relation_lines-more}
use Rattle.outlook.proofs.relations.RelationLinesDisplay.fmt.Goals as goal

pub loop-j-init : goal.loop-j-init
unfolding relation_lines
loop-j-init g c = search rules

pub loop-j-preserved : goal.loop-j-preserved
loop-j-preserved g c = λ plain.
    has_written_of_eq _ _ _ _ _ (relation_lines-more c.args.self.now.relation c.args.self.now.outlook.now c.loop-j.j c.loop-j.auto.j)
    (has_written_append _ _ _ _ _ _ (c.loop-j.invariant plain) (search rules))

pub returns-clause-writes : goal.returns-clause-writes
returns-clause-writes g c = λ plain ok. has_written_of_eq _ _ _ _ _ (ap (relation_lines _ _) (omega arith)) (c.loop-j.invariant plain)
