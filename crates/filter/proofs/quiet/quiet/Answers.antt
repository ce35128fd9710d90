use Rattle.std.proofs.Common.{◌≡◌, true, length, refl, sym, ◌∙◌}
use Rattle.std.proofs.lemmas.Bool.{cond-true}
use Rattle.layers.specs.Labels.{is_barred}
use Rattle.labels.specs.Passes.{fits}
use Rattle.labels.proofs.Folds.{all_any}
use Rattle.labels.proofs.Rooms.{room-facts}
use Rattle.filter.specs.Kept.{kept_from}
use Rattle.filter.specs.Steps.{quiet_steps}
use Rattle.filter.proofs.Kept.{layers-gone, none-counted}
use Rattle.filter.proofs.FilterWords.{none-words}
use Rattle.filter.proofs.quiet.quiet.Goals as goal

pub returns : goal.returns
unfolding quiet_steps
returns g c =
    let r = c.args.round.now in
    let R = g.R.Rule.sense c.args.rule.now in
    let W = c.args.width in
    let xs = c.args.nodes.now in
    let goes = is_barred r R in
    let yes : fits r.n W (length xs) ≡ true = sym c.if-not-has_room.ensures in
    let gone = layers-gone goes W 0 r.n xs in
    let is : c.stay_from.result ≡ quiet_steps r R W xs =
    c.stay_from.ensures ∙ gone.2 ∙ sym (none-counted goes r.n W xs (room-facts r.n W (length xs) yes).enough (kept_from goes W 0 r.n xs) refl gone.0 gone.1) in
    record { steps = is ∙ sym (cond-true (fits r.n W (length xs)) _ _ yes); words = λ fit s. is ∙ none-words r W xs fit s goes }

pub stay_from-requires-clause-fits : goal.stay_from-requires-clause-fits
stay_from-requires-clause-fits g c = all_any _
