use Rattle.std.proofs.Common.{arith}
use Rattle.order_report.proofs.DoorTexts.{one_digit_text, two_digits_text}
use Rattle.order_report.proofs.named.door_number.Goals as goal

pub returns-in-49-to-57 : goal.returns-in-49-to-57
returns-in-49-to-57 c =
    one_digit_text _ _ _ c.as_bytes.ensures.value
    (record { long = omega arith; digit = omega arith; low = omega arith; high = omega arith })

pub returns-in-49 : goal.returns-in-49
returns-in-49 c =
    two_digits_text _ _ _ c.as_bytes.ensures.value
    (record { long = omega arith; first = omega arith; last = omega arith; low = omega arith; high = omega arith })
