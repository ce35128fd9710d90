use Rattle.outlook.proofs.ReasonLemmas.{never, not_with_pairs}
use Rattle.outlook.proofs.outlook.LoadOutlook.of.Goals as goal
use Rattle.outlook.proofs.outlook.LoadOutlook.of.Goals.{in-Some-alone, in-None}

pub returns : goal.returns
returns c =
    let none = rw c.in_default.is at c.in_ok-order.ensures in
    elim c.match-alone.branch [
      | in-Some-alone w ↦ rw w.result-is (not_with_pairs c.args.round.now none _ (rw w.in-Some-alone.is at c.in_ok-alone.ensures))
      | in-None w ↦ rw w.result-is (never c.args.round.now (rw w.in-None.is at c.in_ok-alone.ensures))
    ]
