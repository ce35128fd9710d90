-- The next list by the rest, or by what goes ahead of it.
use Rattle.std.proofs.Common.{◌-◌, length, arith}
use borrow.Rule.Slice.PartMut.{put_same}
use Rattle.std.proofs.lemmas.Bool.{true≢false}
use Rattle.std.proofs.lemmas.Grind.{common_steps}
use Rattle.std.proofs.lemmas.List.Sorted.{IsPermutation-put_mid, IsPermutation-trans}
use Rattle.lister.proofs.Dictionary.{next-put, last-put, last-empty, next-turned-put}
use Rattle.lister.proofs.next.+next_order.Goals as goal

pub returns-then-is_empty-clause-last : goal.returns-then-is_empty-clause-last
returns-then-is_empty-clause-last t c = λ e. last-empty c.args.doors.now (grind (arith, common_steps))

pub returns-then-next_order : goal.returns-then-next_order
returns-then-next_order t c = record {
  same_doors = IsPermutation-put_mid 1 (length c.args.doors.now - 1) c.args.doors.now c.next_order.new.doors c.next_order.ensures.same_doors;
  next = λ e. next-put c.args.doors.now c.next_order.new.doors (grind (arith, common_steps)) (c.next_order.ensures.next c.if-next_order.true);
  last = λ e. absurd (true≢false e);
  unaltered = λ e. absurd (true≢false e);
}

pub returns-in_default-clause-last : goal.returns-in_default-clause-last
returns-in_default-clause-last t c = λ e.
    let stays = c.next_order.ensures.unaltered c.if-next_order.false in
    last-put c.args.doors.now (grind (arith, common_steps)) (rw stays at c.in_default.ensures) (c.next_order.ensures.last c.if-next_order.false)

pub returns-clause-same_doors : goal.returns-clause-same_doors
returns-clause-same_doors t c =
    let xs = c.args.doors.now in
    let ws = c.swap.new.self in
    IsPermutation-trans xs ws _ (rw (c.next_order.ensures.unaltered c.if-next_order.false, put_same 1 (length xs - 1) xs) at c.swap.ensures.permutation)
    (IsPermutation-put_mid 1 (length ws - 1) ws c.reverse.new.self c.reverse.ensures.permutation)

pub returns-clause-next : goal.returns-clause-next
returns-clause-next t c = λ e.
    let stays = c.next_order.ensures.unaltered c.if-next_order.false in
    next-turned-put c.args.doors.now c.next_order.new.doors c.swap.new.self c.reverse.new.self c.in-Some.k (grind (arith, common_steps)) stays
    (rw stays (c.next_order.ensures.last c.if-next_order.false))
    c.in-Some.ensures.0 c.in-Some.ensures.1 c.in-Some.ensures.2 c.swap.ensures.after c.reverse.ensures.after (returns-clause-same_doors t c)
