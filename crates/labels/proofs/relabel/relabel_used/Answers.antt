use Rattle.std.proofs.Common.{◌≡◌, false, length, sym, ap, ◌∙◌, arith}
use Rattle.layers.specs.Settings.{lent_setting}
use Rattle.std.proofs.lemmas.Bool.{cond-true, cond-false}
use Rattle.labels.specs.Passes.{fits, pass_up, relabelled_used}
use Rattle.labels.proofs.Laying.{used_read}
use Rattle.labels.proofs.Rooms.{room-facts}
use Rattle.labels.proofs.relabel.relabel_used.Goals as goal

pub label_down-requires : goal.label_down-requires
label_down-requires g c = omega (arith, (room-facts c.args.by.now.round.now.n c.args.by.now.width (length c.args.nodes.now) (sym c.if-has_room.ensures)).enough)

pub label_up-requires : goal.label_up-requires
label_up-requires g c = omega (arith, (room-facts c.args.by.now.round.now.n c.args.by.now.width (length c.args.nodes.now) (sym c.if-has_room.ensures)).enough)

pub returns-then-has_room : goal.returns-then-has_room
unfolding relabelled_used
returns-then-has_room g c =
    let xs = c.args.nodes.now in
    let by = lent_setting c.args.by.now (g.R.Rule.sense c.args.by.now.rule.now) (g.T.Tally.sense c.args.by.now.tally.now) in
    let is : c.label_up.new.nodes ≡ relabelled_used by xs = c.label_up.ensures ∙ ap (pass_up by.round by.width) c.label_down.ensures in
    record { passes = is ∙ sym (cond-true (fits by.round.n by.width (length xs)) _ _ (sym c.if-has_room.ensures)); labelled = λ Ls f p e has. is ∙ used_read by Ls xs f p e has }

pub returns-else-has_room : goal.returns-else-has_room
returns-else-has_room g c =
    let no' : fits c.args.by.now.round.now.n c.args.by.now.width (length c.args.nodes.now) ≡ false = sym c.if-has_room.ensures in
    record { passes = sym (cond-false (fits c.args.by.now.round.now.n c.args.by.now.width (length c.args.nodes.now)) _ _ no'); labelled = λ Ls f p e has. cc (f, no') }
