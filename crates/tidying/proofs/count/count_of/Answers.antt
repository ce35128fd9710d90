use Rattle.std.proofs.Common.{◌≡◌, ℕ, ◌≤◌, map, get_or, sum_by, ap, sym, ◌∙◌, arith}
use Rattle.std.specs.List.{range_with_len}
use Rattle.std.proofs.lemmas.List.FromFn.{sum_by-map-range_with_len_more}
use Rattle.labels.proofs.DoorsOut.{byte-most}
use Rattle.tidying.proofs.Targets.{arcs_counted, one_if}
use Rattle.tidying.proofs.count.count_of.Goals as goal

pub loop-k-preserved : goal.loop-k-preserved
loop-k-preserved g c =
    let l = c.loop-k in
    let one : c.from-many.result ≤ 1 = rw c.from-many.ensures (byte-most _) in
    record {
      counted = omega (arith, l.invariant.counted, sum_by-map-range_with_len_more one_if (λ i. get_or c.args.x.now.arcs.to i 0) 0 l.k l.k (omega arith), c.from-many.ensures);
      few = omega (arith, l.invariant.few, one);
    }

pub returns-clause-many : goal.returns-clause-many
returns-clause-many g c =
    let all : c.loop-k.k ≡ 16 = omega arith in
    c.loop-k.invariant.counted ∙ ap (λ (k : ℕ). sum_by one_if (map (λ i. get_or c.args.x.now.arcs.to i 0) (range_with_len 0 k))) all ∙ sym (arcs_counted c.args.x.now)
