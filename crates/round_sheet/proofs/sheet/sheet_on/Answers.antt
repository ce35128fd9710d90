use Rattle.std.proofs.Common.{rules, ◌≡◌, ℕ, List, [], ◌∷◌, drop, slice_index, sym, ap, ap₂, subst, ◌∙◌}
use Rattle.doors.specs.Sets.{has}
use Rattle.allowed.specs.Senses.{late_of}
use Rattle.layers.specs.declared.call.Call.TheVariants.{Refine}
use Rattle.diagram.specs.declared.room.Room.{Room}
use Rattle.diagram.specs.Musts.{must_of}
use Rattle.refine.specs.Answers.{IsInnerIfFull}
use Rattle.round_sheet.specs.declared.sheet.Sheet.{Sheet}
use Rattle.round_sheet.specs.Claims.{NoneUndercuts, BoundIsReached}
use Rattle.round_sheet.specs.Sheets.{Records, places_of, refined_for, sheet_of}
use Rattle.round_sheet.proofs.SheetClaims.{none_undercuts, musts_named, musts_hold, bound_reached, none_missing}
use Rattle.round_sheet.proofs.SheetLater.{later_kept}
use Rattle.round_sheet.proofs.SheetOpened.{claimed, settles, is_refined, is_sheet}
use Rattle.round_sheet.proofs.sheet.sheet_on.Goals as goal

pub returns : goal.returns
returns c =
    let m = c.args.room in
    let r = m.round.now in
    let a = c.of-rule.result.first.first.round in
    let b = c.of-rule.result.first.second.round in
    let d = c.of-rule.result.second.round in
    let t = c.of-tally.result.round in
    let ea = c.of-rule.ensures.pairs in
    let eb = c.of-rule.ensures.load in
    let ed = c.of-rule.ensures.keepers in
    let et = c.of-tally.ensures in
    let ew = c.requires.width in
    let lent = c.args.records.now in
    let open' = c.open-diagram in
    let opened = open'.result.nodes.now in
    let eo = open'.ensures.records in
    let o = open'.result.room in
    let same = open'.ensures.room in
    let back : r.n ≡ o.round.now.n = ap (λ (x : Room). x.round.now.n) (sym same) in
    let serves : ((a.now.n ≡ o.round.now.n) × (b.now.n ≡ o.round.now.n)) × (d.now.n ≡ o.round.now.n) =
    ((ap (λ x. x.now.n) ea ∙ back, ap (λ x. x.now.n) eb ∙ back), ap (λ x. x.now.n) ed ∙ back) in
    let sure = claimed m a b d t ea eb ed et ew lent opened o same eo (open'.ensures.claim serves (ap (λ x. x.now.n) et ∙ back) (Refine ∷ [])) in
    let done = is_refined m a b d t ea eb ed et ew lent opened o same eo in
    let k = c.refine-refined.new.self in
    let room = c.refine-refined.ensures.room ∙ open'.ensures.room in
    let nodes : k.nodes.now ≡ (refined_for r lent).1 = c.refine-refined.ensures.records ∙ ap (λ p. p.1) done in
    let s : Sheet = record { bound = c.bound.result; refined = c.refine-refined.result; settled = c.settled.result; musts = c.musts.result } in
    let sheet : s ≡ sheet_of r lent =
    is_sheet m a b d t ea eb ed et ew lent opened o same eo k.room k.nodes.now s room nodes c.bound.ensures (c.refine-refined.ensures.answer ∙ ap (λ p. p.0) done) (c.settled.ensures (late_of r)) c.musts.ensures.sets in
    let to = sym sheet in
    let sets : List ℕ = c.musts.result in
    let each : (i j : ℕ) → has (slice_index sets i) j ≡ must_of r.n 16 (refined_for r lent).1 i j =
    λ i j. c.musts.ensures.each i j
    ∙ ap (λ (x : Room). must_of x.round.now.n x.width k.nodes.now i j) room
    ∙ ap₂ (λ W (xs : Records). must_of r.n W xs i j) ew nodes in
    let whole = settles m a b d t ea eb ed et ew lent opened o same eo (open'.ensures.whole serves []) in
    record {
      records = search (rules, nodes);
      later = search (rules, ap (drop (places_of r)) nodes ∙ later_kept r lent);
      sheet = sheet;
      layer = subst (λ (x : Room). IsInnerIfFull x.round.now.n c.refine-refined.result) open'.ensures.room c.refine-refined.ensures.within;
      none_undercuts = subst (λ (s : Sheet). NoneUndercuts r s.bound) to (none_undercuts r (refined_for r lent).1 sure);
      musts_named = musts_named r (refined_for r lent).1 sets each;
      musts_hold = musts_hold r (refined_for r lent).1 sure sets each;
      whole_settles = λ e. ap (λ s. s.settled) sheet ∙ whole (sym (ap (λ s. s.refined) sheet) ∙ e);
      bound_reached = λ e. subst (λ (s : Sheet). BoundIsReached r s.bound) to (bound_reached r (refined_for r lent).1 sure (sym (ap (λ s. s.settled) sheet) ∙ e));
      none_missing = λ e. none_missing r (refined_for r lent).1 sure sets each (sym (ap (λ s. s.settled) sheet) ∙ e);
    }
