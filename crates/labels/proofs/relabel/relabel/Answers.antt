use Rattle.std.proofs.Common.{◌≡◌, ◌*◌, ◌++◌, drop, length, refl, sym, arith, ◌∙◌, take-append-drop}
use Rattle.std.proofs.lemmas.List.{length-append, length-take-le}
use Rattle.std.proofs.lemmas.Bool.{false≢true}
use Rattle.layers.specs.Settings.{lent_setting}
use Rattle.labels.specs.Passes.{relabelled}
use Rattle.labels.proofs.Rooms.{room-facts}
use Rattle.labels.proofs.Laying.{relabelled_read}
use Rattle.labels.proofs.relabel.relabel.Goals as goal

pub returns-then-not-has_room : goal.returns-then-not-has_room
returns-then-not-has_room g c =
    record { passes = rw (← c.if-not-has_room.ensures) refl; labelled = λ Ls fit f e. absurd (false≢true (c.if-not-has_room.ensures ∙ fit)) }

pub overflow_mul-by : goal.overflow_mul-by
overflow_mul-by g c = let room = room-facts c.args.by.now.round.now.n c.args.by.now.width (length c.args.nodes.now) (sym c.if-not-has_room.ensures) in omega arith

pub slice_bounds-unlabel-end : goal.slice_bounds-unlabel-end
slice_bounds-unlabel-end g c = let room = room-facts c.args.by.now.round.now.n c.args.by.now.width (length c.args.nodes.now) (sym c.if-not-has_room.ensures) in omega arith

pub slice_bounds-unlabel-end-2 : goal.slice_bounds-unlabel-end-2
slice_bounds-unlabel-end-2 g c = let room = room-facts c.args.by.now.round.now.n c.args.by.now.width (length c.args.nodes.now) (sym c.if-not-has_room.ensures) in sym (length-take-le _ _ (omega arith))

pub returns : goal.returns
unfolding relabelled
returns g c =
    let by = lent_setting c.args.by.now (g.R.Rule.sense c.args.by.now.rule.now) (g.T.Tally.sense c.args.by.now.tally.now) in
    let xs = c.args.nodes.now in
    let long : length (c.unlabel.new.vs ++ drop (by.round.n * by.width) xs) ≡ length xs = rw (length-append, c.unlabel.auto.vs, ← length-append, take-append-drop) refl in
    let is : c.relabel_used.new.nodes ≡ relabelled by xs = rw (long, ← c.if-not-has_room.ensures, c.unlabel.ensures) at c.relabel_used.ensures.passes in
    record { passes = rw (← c.if-not-has_room.ensures) is; labelled = λ Ls fit f e. is ∙ relabelled_read by Ls xs fit f e }
