use Rattle.std.proofs.Common.{refl}
use Rattle.round_sheet.proofs.sheet.Sheet.of.Goals as goal

pub sheet_on-requires-clause-width : goal.sheet_on-requires-clause-width
sheet_on-requires-clause-width c = c.in_ok-room.ensures.width

pub returns-clause-room : goal.returns-clause-room
returns-clause-room c = (λ e. c.in_ok-room.ensures.fits, λ h. refl)
