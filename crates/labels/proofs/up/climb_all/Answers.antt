use Rattle.std.proofs.Common.{◌≡◌, ℕ, None, Option, take, fold, sym, refl, ap, ◌∙◌, arith}
use Rattle.std.specs.List.{range_with_len, flat_map}
use Rattle.std.specs.Option.{unwrap_or}
use Rattle.std.proofs.lemmas.Bool.{ne_eqb}
use Rattle.std.proofs.lemmas.List.{take_all}
use Rattle.std.proofs.lemmas.List.Sums.{fold_more}
use Rattle.layers.specs.declared.node.Up.{Up}
use Rattle.layers.specs.Labels.{no_up}
use Rattle.labels.specs.Passes.{up_by, ups_of, taken_up}
use Rattle.labels.proofs.DoorsOut.{folded_out, listed_door}
use Rattle.labels.proofs.Steps.{fold_joined, taken_gathered, taken_more, taken_none, up_by-few}
use Rattle.labels.proofs.up.climb_all.Goals as goal
use Rattle.labels.proofs.up.climb_all.Goals.{in-Some, in_default}

pub climb_by-requires-clause-k_bound : goal.climb_by-requires-clause-k_bound
climb_by-requires-clause-k_bound g c =
    let o = c.list_doors-many in rw c.from.ensures (listed_door o.new.doors o.result c.loop-k.k-index o.ensures.in_range c.loop-k-test.true)

pub climb_by-requires-clause-is_leg : goal.climb_by-requires-clause-is_leg
climb_by-requires-clause-is_leg g c =
    let o = c.list_doors-many in
    c.legs-legs.ensures c.from.result (rw c.from.ensures (listed_door o.new.doors o.result c.loop-k.k-index o.ensures.in_range c.loop-k-test.true))

pub loop-k-preserved : goal.loop-k-preserved
loop-k-preserved g c =
    let o = c.list_doors-many in
    let a = c.args in
    let got = c.loop-k.got in
    let F = up_by a.round.now a.vs.now a.u.now in
    let xs = F c.from.result in
    let step : c.match-climb_by.got ≡ fold taken_up got xs = elim c.match-climb_by.branch [
      | in-Some w ↦ rw (w.got-is, w.take_up-got.ensures) (sym (taken_more got xs w.in-Some.x (sym c.climb_by.ensures ∙ w.in-Some.is) (up_by-few a.round.now a.vs.now a.u.now c.from.result)))
      | in_default w ↦ rw w.got-is (sym (taken_none got xs (sym c.climb_by.ensures ∙ w.in_default.is)))
    ] in
    rw (step, c.loop-k.invariant, c.from.ensures) (sym (fold_more (λ (got : Option Up) (k : ℕ). fold taken_up got (F k)) None (take o.result o.new.doors) c.loop-k.k-index 0 c.loop-k-test.true))

pub returns : goal.returns
unfolding ups_of up_by
returns g c =
    let o = c.list_doors-many in
    let to = c.args.u.now.arcs.to in
    let F = up_by c.args.round.now c.args.vs.now c.args.u.now in
    let f : Option Up → ℕ → Option Up = λ got k. fold taken_up got (F k) in
    let all : c.loop-k.got ≡ fold taken_up None (flat_map F (range_with_len 0 16)) =
    c.loop-k.invariant ∙ ap (fold f None) (take_all c.loop-k.k-index (take o.result o.new.doors) (omega arith) ∙ o.ensures.listed)
    ∙ sym (folded_out f to (λ b k e. rw e refl) None) ∙ fold_joined taken_up F None (range_with_len 0 16) in
    rw (ne_eqb c.args.u.now.label.down.lasts 0 c.if-u-eq0.false)
    (c.unwrap_or.ensures ∙ ap (λ o. unwrap_or o no_up) all ∙ taken_gathered (flat_map F (range_with_len 0 16)))
