use Rattle.std.proofs.Common.{codes, arith, rules}
use Rattle.std.proofs.lemmas.Slice.Eq.{text_from_reads}
use Rattle.text.proofs.kind.kind_named.Goals as goal

-- the bytes are those of the word
pub returns-in-107 : goal.returns-in-107
returns-in-107 c = rw (text_from_reads c.args.name.now (codes "keeper") (omega arith) (search rules))
