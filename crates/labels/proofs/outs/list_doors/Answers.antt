use Rattle.std.proofs.Common.{ℕ, ◌≤◌, not, eqb, get_or, arith}
use Rattle.std.proofs.lemmas.Grind.{common_steps}
use Rattle.labels.proofs.DoorsOut.{byte-most, listed_more}
use Rattle.labels.proofs.outs.list_doors.Goals as goal

pub loop-k-preserved : goal.loop-k-preserved
loop-k-preserved c =
    let p = λ (k : ℕ). not (eqb (get_or c.args.to.now k 0) 0) in
    let l = c.loop-k in
    let one : c.from-many.result ≤ 1 = rw c.from-many.ensures (byte-most (p l.k)) in
    record {
      long = grind (arith, common_steps, l.invariant.long);
      few = omega arith;
      in_range = λ i lt. grind (arith, common_steps, l.invariant.in_range i);
      listed = rw c.from-many.ensures (listed_more p l.doors l.many l.k (omega arith) l.invariant.listed);
    }
