use Rattle.outlook.proofs.Ways.{none-in-time}
use Rattle.outlook.proofs.none_is_in_time.Goals as goal

pub returns : goal.returns
returns c = none-in-time
