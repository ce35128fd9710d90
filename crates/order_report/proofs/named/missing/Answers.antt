use Rattle.std.proofs.Common.{sym, ◌∙◌, below_more, arith}
use Rattle.order_report.proofs.WordOrders.{any-stands, stands-any, whole}
use Rattle.order_report.proofs.named.missing.Goals as goal

pub returns-then-not-contains : goal.returns-then-not-contains
returns-then-not-contains c = record {
  part = c.requires;
  door = record { low = omega arith; high = omega arith };
  lacks = λ h. cc (stands-any c.loop-door.door-counter c.args.doors.now h, c.contains.ensures.value);
  least = λ k low high. c.loop-door.invariant k high low;
}

pub loop-door-preserved : goal.loop-door-preserved
loop-door-preserved c =
    below_more _ _ c.loop-door.invariant (λ low. any-stands c.loop-door.door-counter c.args.doors.now (sym c.contains.ensures.value ∙ c.if-not-contains.false))

pub returns-else-not-contains : goal.returns-else-not-contains
returns-else-not-contains c =
    let here = any-stands c.loop-door.door-counter c.args.doors.now (sym c.contains.ensures.value ∙ c.if-not-contains.false) in
    record {
      part = c.requires;
      whole = whole _ _ c.requires (λ k low high. below_more _ _ c.loop-door.invariant (λ l. here) k (omega arith) low);
    }
