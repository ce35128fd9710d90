use Rattle.worked.proofs.Computed.{computed}
use Rattle.worked.proofs.worked_cases.Goals as goal

pub returns : goal.returns
returns c = computed
