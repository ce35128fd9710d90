use Rattle.round_sheet.proofs.lines.RefineLineDisplay.fmt.Goals as goal

pub returns-in-Full-clause-writes : goal.returns-in-Full-clause-writes
returns-in-Full-clause-writes g c = rw c.in-Full.is c.writeln-in-Full.ensures.writes
