-- How it reads why words name no order.
use Rattle.std.specs.Prelude.{ℕ, List, ◌++◌, codes, decimal}
use Rattle.order_report.specs.declared.named.OrderFault as faults
use Rattle.order_report.specs.declared.named.OrderFault.TheVariants.{NoDoor, Twice, Missing}

-- which word or door it is, and what a door is
abbrev pub fault_text : faults.OrderFault → List ℕ
fault_text (NoDoor word n) =
    codes "'" ++ word.now ++ codes "' is no door of this round: its doors are 1 to "
    ++ decimal n ++ codes ", in digits with no leading zero"
fault_text (Twice j) = codes "door " ++ decimal j ++ codes " comes twice"
fault_text (Missing j) = codes "door " ++ decimal j ++ codes " is missing"
