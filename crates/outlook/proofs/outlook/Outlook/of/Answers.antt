use Rattle.std.proofs.Common.{refl}
use Rattle.outlook.proofs.ReasonLemmas.{all_ruled_out}
use Rattle.outlook.proofs.outlook.Outlook.of.Goals as goal

pub returns : goal.returns
returns c =
    let earliest = c.earliest_finishes.ensures.doors in
    record {
      round = refl;
      earliest = earliest;
      others = c.earliest_finishes.ensures.others;
      ahead = c.doors_ahead.ensures;
      load = c.in_ok-of.ensures;
      reasons = all_ruled_out _ (record { round = c.args.round; earliest = c.earliest_finishes.result; ahead = c.doors_ahead.result; load = c.in_ok-of.field-0 }) refl earliest c.doors_ahead.ensures c.in_ok-of.ensures;
    }
