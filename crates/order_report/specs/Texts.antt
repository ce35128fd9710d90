-- How a report reads: lines of fields, with tabs between the fields and a line feed at the end of each line.
use Rattle.std.specs.Prelude.{ℕ, List, ◌∷◌, ◌++◌, codes, decimal}
use Rattle.std.specs.List.{flat_map, zip}
use Rattle.order_report.specs.declared.report.Report.{Report}
use Rattle.order_report.specs.VerdictTexts.{verdict_line}

-- a door, and the minute at which it finishes
abbrev pub finish_line : ℕ × ℕ → List ℕ
finish_line s = codes "finish\t" ++ decimal s.0 ++ (9 ∷ decimal s.1) ++ codes "\n"

-- whether the order is allowed, the minutes driven, and the doors and minutes that are late
abbrev pub closing_lines : Report → List ℕ
closing_lines p =
    verdict_line p.verdict
    ++ codes "\ndriving\t" ++ decimal p.driving
    ++ codes "\nlate\t" ++ decimal p.late.0 ++ (9 ∷ decimal p.late.1) ++ codes "\n"

-- a line for each door in the order's sequence, then the others
abbrev pub report_text : Report → List ℕ
report_text p = flat_map finish_line (zip p.doors.now p.finishes.items) ++ closing_lines p
