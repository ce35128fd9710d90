-- From each order to the next one, and at the last.
use Rattle.std.proofs.Common.{◌≡◌, ℕ, ◌^◌, ◌<◌, List, ◌++◌, length, take, drop, refl, sym, ap, ◌∙◌, subst, take_all, le_refl, arith}
use Rattle.std.specs.List.{range_with_len}
use Rattle.std.specs.List.Sorted.{IsPermutation}
use Rattle.std.proofs.lemmas.List.{take-append-le}
use Rattle.std.proofs.lemmas.Slice.{drop-append-drop}
use Rattle.std.proofs.lemmas.List.Elements.{All-nil}
use Rattle.std.proofs.lemmas.List.Sorted.{IsPermutation-refl, IsPermutation-trans}
use Rattle.lister.specs.Listed.{IsGood}
use Rattle.lister.proofs.Rank.{rank, rank-lt, rank-before}
use Rattle.lister.proofs.Doors.{long, small, by_number}
use Rattle.lister.proofs.SoFar.{looked, started, stepped, ended}
use Rattle.lister.proofs.list.list.Goals as goal

-- the first n places after the step
taken : (n : ℕ) (w rest : List ℕ) → IsPermutation (range_with_len 1 n) w → take n (w ++ rest) ≡ w
taken n w rest p = let e : length w ≡ n = long n w p in take-append-le n w rest (omega arith) ∙ take_all n w (omega arith)

pub loop-allowed-init : goal.loop-allowed-init
loop-allowed-init g c =
    let n = c.args.round.now.n in
    let K = g.R.Rule.keeps c.args.rule.now in
    let first = by_number n c.args.round.now.most in
    let none = c.new-allowed.ensures.items in
    record {
      reordered = rw first (IsPermutation-refl (range_with_len 1 n));
      later = refl {a = drop n (range_with_len 1 16)};
      good = λ s. rw none (All-nil (IsGood c.args.round.now K (g.T.Tally.sense c.args.tally.now)));
      so_far = λ s. rw (first, none) (started c.args.round.now K);
    }

pub loop-allowed-preserved : goal.loop-allowed-preserved
loop-allowed-preserved g c =
    let n = c.args.round.now.n in
    let K = g.R.Rule.keeps c.args.rule.now in
    let w = c.next_order.new.doors in
    let h = c.loop-allowed.invariant in
    let moved = IsPermutation-trans (range_with_len 1 n) _ w h.reordered c.next_order.ensures.same_doors in
    let t = taken n w (drop n c.loop-allowed.doors) moved in
    record {
      reordered = rw t moved;
      later = drop-append-drop n c.loop-allowed.doors w n (le_refl n) (long n w moved) ∙ h.later;
      good = λ s. c.look.ensures.good s (h.good s);
      so_far = λ s. rw t (stepped c.args.round.now K _ w _ (looked c.args.round.now K _ _ _ (h.so_far s) (c.in_ok-look.ensures.orders s)) (c.next_order.ensures.next c.if-not-next_order.false) h.reordered);
    }

pub loop-allowed-smaller : goal.loop-allowed-smaller
loop-allowed-smaller g c =
    let n = c.args.round.now.n in
    let v = take n c.loop-allowed.doors in
    let w = c.next_order.new.doors in
    let p = c.loop-allowed.invariant.reordered in
    let moved = IsPermutation-trans (range_with_len 1 n) v w p c.next_order.ensures.same_doors in
    let rise = rank-before v w (long n v p ∙ sym (long n w moved)) (small n v c.args.round.now.most p) (c.next_order.ensures.next c.if-not-next_order.false).after in
    let high : rank w < 17 ^ n = subst (λ (m : ℕ). rank w < 17 ^ m) (long n w moved) (rank-lt w (small n w c.args.round.now.most moved)) in
    omega (arith, ap rank (taken n w (drop n c.loop-allowed.doors) moved))

pub returns-then-not-next_order-clause-sound : goal.returns-then-not-next_order-clause-sound
returns-then-not-next_order-clause-sound g c = λ s. c.look.ensures.good s (c.loop-allowed.invariant.good s)

pub returns-then-not-next_order-clause-whole : goal.returns-then-not-next_order-clause-whole
returns-then-not-next_order-clause-whole g c = λ s.
    let upto = looked _ _ _ _ _ (c.loop-allowed.invariant.so_far s) (c.in_ok-look.ensures.orders s) in
    ended _ _ _ _ upto (c.next_order.ensures.last c.if-not-next_order.true) c.loop-allowed.invariant.reordered

pub returns-then-not-next_order-clause-ascending : goal.returns-then-not-next_order-clause-ascending
returns-then-not-next_order-clause-ascending g c = λ s.
    (looked _ _ _ _ _ (c.loop-allowed.invariant.so_far s) (c.in_ok-look.ensures.orders s)).ascending
