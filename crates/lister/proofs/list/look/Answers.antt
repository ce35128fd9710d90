use Rattle.std.proofs.Common.{[], ◌∷◌, take, inl}
use Rattle.std.proofs.lemmas.List.{map-append}
use Rattle.std.proofs.lemmas.List.Elements.{All-push}
use Rattle.lister.specs.declared.list.Listed.{Listed}
use Rattle.lister.specs.Listed.{IsGood}
use Rattle.lister.proofs.list.look.Goals as goal

pub returns-in_ok-push : goal.returns-in_ok-push
returns-in_ok-push g c =
    let x : Listed g.row.T-Value.Denot = record { doors = c.args.doors; cost = c.in-Some.cost } in
    rw c.in_ok-push.ensures.items (record {
      good = λ s h. All-push (IsGood c.args.round.now (g.R.Rule.keeps c.args.rule.now) (g.T.Tally.sense c.args.tally.now)) c.args.allowed.now.items x h (record { allowed = c.in-Some.ensures.allowed s; cost = c.in-Some.ensures.cost; later = c.requires });
      orders = λ s. inl (c.in-Some.ensures.allowed s, map-append (λ (x : Listed g.row.T-Value.Denot). take c.args.round.now.n x.doors) c.args.allowed.now.items (x ∷ []));
    })
