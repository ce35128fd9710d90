use Rattle.std.proofs.Common.{List, ℕ, slice_index, take, drop, sym, ap, ◌++◌, ◌∙◌, ◌+◌, take-append-drop}
use Rattle.std.proofs.lemmas.List.{take_more, drop_more}
use Rattle.doors.proofs.Orders.{next-part}
use Rattle.order_report.proofs.WordOrders.{any-stands, stands-any}
use Rattle.order_report.proofs.named.repeated.Goals as goal

pub returns-then-contains : goal.returns-then-contains
returns-then-contains c =
    let w = c.args.doors.now in
    let i = c.loop-i.i in
    record {
      ahead = take i w;
      rest = drop (i + 1) w;
      split = sym (take-append-drop i w) ∙ ap (λ (v : List ℕ). take i w ++ v) (drop_more w i 0 c.loop-i-test.true);
      part = c.loop-i.invariant;
      again = any-stands (slice_index w i) (take i w) (sym c.contains.ensures.value ∙ c.if-contains.true);
    }

pub loop-i-preserved : goal.loop-i-preserved
loop-i-preserved c =
    let w = c.args.doors.now in
    let i = c.loop-i.i in
    rw (take_more w i 0 c.loop-i-test.true)
    (next-part c.args.round.now.n (take i w) (slice_index w i) c.loop-i.invariant (c.requires i 0 c.loop-i-test.true) (λ h. cc (stands-any (slice_index w i) (take i w) h, c.contains.ensures.value, c.if-contains.false)))
