use Rattle.std.proofs.Common.{◌≡◌, ℕ, suc, ◌+◌, ◌-◌, ◌≤◌, Bool, List, ◌++◌, map, length, get_or, set, take, drop, Some, true, sym, ap, ◌∙◌, subst, ap₂, add-one, arith}
use Rattle.std.proofs.lemmas.List.{take_at, drop_at, take-append-drop, length-take-le}
use Rattle.layers.specs.declared.node.Node.{Node}
use Rattle.layers.specs.declared.node.Label.{Label}
use Rattle.layers.specs.Labels.{all_agree, first_arrival}
use Rattle.layers.specs.Calls.{Outcome}
use Rattle.layers.specs.Settings.{Setting, lent_setting}
use Rattle.labels.specs.Passes.{arrivals, blank_node}
use Rattle.split.specs.declared.listing.InArcs.{InArcs}
use Rattle.split.specs.declared.source.Source.{Source}
use Rattle.split.specs.Agreed.{brought, kept_by}
use Rattle.split.specs.Listed.{IsListed, written, told_from, all_stay, told_records}
use Rattle.split.specs.Parted.{or_unused, parted_node, parted_second}
use Rattle.split.specs.Steps.{alike, NodeDone, parted_one, kept_first}
use Rattle.split.proofs.Checks.{none-agree}
use Rattle.split.proofs.Meets.{stay-said, kept-same}
use Rattle.split.proofs.Turns.{Next, next-alike, next-full, next-parted, told-head, told-tail}
use Rattle.split.proofs.parting.part_node.Goals as goal

module _ {S V : Type 0} (by : Setting S V) (xs us vs : List (Node S V)) (list : InArcs) (front : us ≡ take by.width xs) (back : vs ≡ drop by.width xs) (le : by.width ≤ length xs) (l : IsListed (take by.width xs) list) (a : ℕ) where
  -- whether the in-arcs agree, of the records with the list written back
  agree-said : alike by 0 (suc a) (told_records by.width list xs) ≡ all_agree by.rule (arrivals by (a + 1) (written us list))
  agree-said = ap₂ (λ (t : ℕ) ys. all_agree by.rule (arrivals by t ys)) (sym (add-one a)) (told-head by.width xs us list front le l)

  agree-stay : (self : (x : S) → by.rule.same x x ≡ true) (s : Source S V) → Some (brought by s) ≡ first_arrival (arrivals by (a + 1) (written us list))
      → alike by 0 (suc a) (told_records by.width list xs) ≡ all_stay (λ u j. kept_by by.round by.rule s u.down j) (a + 1) (told_from 0 (written us list))
  agree-stay self s e = let l' = subst (λ ys. IsListed ys list) (sym front) l in agree-said ∙ sym (stay-said by self (written us list) s (a + 1) (omega arith) l'.wide e)

  -- what a refusal leaves
  left : (o : Outcome) (m : ℕ) → Next by 0 a m (told_records by.width list xs) o (told_records by.width list xs) → NodeDone by a m xs list o (us ++ vs) list
  left o m n = let e : us ++ vs ≡ xs = ap₂ (λ ys zs. ys ++ zs) front back ∙ take-append-drop by.width xs in (n.0, ap (told_records by.width list) e ∙ n.1, subst (λ ys. IsListed (take by.width ys) list) (sym e) l)

pub returns-in_default : goal.returns-in_default
returns-in_default g c =
    let by = lent_setting c.args.by.now (g.R.Rule.sense c.args.by.now.rule.now) (g.T.Tally.sense c.args.by.now.tally.now) in
    let s = c.split_at_mut-us.ensures in
    let l = c.requires.listed in
    left by _ _ _ _ s.front s.back (omega arith) l c.args.a _ _ (next-alike by 0 _ _ _ (agree-said by _ _ _ _ s.front s.back (omega arith) l c.args.a ∙ none-agree by _ (c.in_default.ensures by)))

pub returns-in_default-first_leaving : goal.returns-in_default-first_leaving
returns-in_default-first_leaving g c =
    let by = lent_setting c.args.by.now (g.R.Rule.sense c.args.by.now.rule.now) (g.T.Tally.sense c.args.by.now.tally.now) in
    let s = c.split_at_mut-us.ensures in
    let l = c.requires.listed in
    let same = agree-stay by _ _ _ _ s.front s.back (omega arith) l c.args.a (g.met.R.Rule.reflexive c.args.by.now.rule.now) c.in-Some.first (c.in-Some.ensures by) in
    left by _ _ _ _ s.front s.back (omega arith) l c.args.a _ _ (next-alike by 0 _ _ _ (same ∙ c.in_default-first_leaving.ensures))

pub returns-then-is_full : goal.returns-then-is_full
returns-then-is_full g c =
    let by = lent_setting c.args.by.now (g.R.Rule.sense c.args.by.now.rule.now) (g.T.Tally.sense c.args.by.now.tally.now) in
    let s = c.split_at_mut-us.ensures in
    let l = c.requires.listed in
    let same = agree-stay by _ _ _ _ s.front s.back (omega arith) l c.args.a (g.met.R.Rule.reflexive c.args.by.now.rule.now) c.in-Some.first (c.in-Some.ensures by) in
    left by _ _ _ _ s.front s.back (omega arith) l c.args.a _ _ (next-full by 0 _ _ _ (same ∙ c.in-Some-first_leaving.ensures.2) (grind (arith, c.is_full.ensures, c.if-is_full.true)))

pub returns : goal.returns
unfolding parted_one parted_second
returns g c =
    let by = lent_setting c.args.by.now (g.R.Rule.sense c.args.by.now.rule.now) (g.T.Tally.sense c.args.by.now.tally.now) in
    let xs = c.args.nodes.now in
    let w = by.width in
    let a = c.args.a in
    let m = c.args.count in
    let z = blank_node by.rule by.tally in
    let list = c.args.list.now in
    let next = c.divide.new.list in
    let us = c.split_at_mut-us.result.0.now in
    let vs = c.split_at_mut-us.result.1.now in
    let front : us ≡ take w xs = c.split_at_mut-us.ensures.front in
    let back : vs ≡ drop w xs = c.split_at_mut-us.ensures.back in
    let l = c.requires.listed in
    let le : w ≤ length xs = omega arith in
    let R = told_records w list xs in
    let long : length us ≡ w = ap (λ ys. length ys) front ∙ length-take-le w xs le in
    let e = c.in-Some-first_leaving.ensures in
    let apart = agree-stay by xs us vs list front back le l a (g.met.R.Rule.reflexive c.args.by.now.rule.now) c.in-Some.first (c.in-Some.ensures by) ∙ e.2 in
    let n = next-parted by 0 a m R apart (grind (arith, c.is_full.ensures, c.if-is_full.false)) in
    let head : take w R ≡ written us list = told-head w xs us list front le l in
    let tail : drop w R ≡ vs = told-tail w xs us list front le l ∙ sym back in
    let rest = c.copy_record.new.vs in
    let o = first_arrival (arrivals by (suc a) (take w R)) in
    let first = c.in-Some.ensures by ∙ ap₂ (λ (t : ℕ) ys. first_arrival (arrivals by t ys)) (add-one a) (sym head) in
    let keeps : Label g.row.R-State.Denot g.row.T-Value.Denot → ℕ → Bool = or_unused (λ u j. kept_by by.round by.rule c.in-Some.first u.down j) in
    let stays : keeps ≡ kept_first by o = kept-same by c.in-Some.first o first in
    let old : get_or list.to c.in-Some-first_leaving.from 0 - 1 ≡ a = omega (arith, e.1) in
    let new : m + 1 - 1 ≡ m = omega arith in
    let P : (Label g.row.R-State.Denot g.row.T-Value.Denot → ℕ → Bool) → ℕ → ℕ → List (Node g.row.R-State.Denot g.row.T-Value.Denot) → List (Node g.row.R-State.Denot g.row.T-Value.Denot) = λ f i j ys. map (parted_node f i j) ys in
    let made : written us next ≡ map (parted_node (kept_first by o) a m) (take w R) =
    c.divide.ensures.records ∙ ap₂ (λ i j. P keeps i j (written us list)) old new ∙ ap₂ (λ f ys. P f a m ys) stays (sym head) in
    let last : rest ≡ set (drop w R) m (get_or (drop w R) a z) =
    c.copy_record.ensures z ∙ ap (λ ys. set ys m (get_or ys a z)) (sym tail) in (
      n.0,
      ap₂ (λ ys zs. ys ++ zs) (ap (λ ys. written ys next) (take_at us rest w long) ∙ made) (drop_at us rest w long ∙ last) ∙ n.1,
      subst (λ ys. IsListed ys next) (sym (take_at us rest w long)) c.divide.ensures.listed,
    )

pub first_into-requires-clause-listed : goal.first_into-requires-clause-listed
first_into-requires-clause-listed g c = subst (λ ys. IsListed ys c.args.list.now) (sym c.split_at_mut-us.ensures.front) c.requires.listed

pub first_leaving-requires : goal.first_leaving-requires
first_leaving-requires g c = record { listed = subst (λ ys. IsListed ys c.args.list.now) (sym c.split_at_mut-us.ensures.front) c.requires.listed }

pub divide-requires-clause-listed : goal.divide-requires-clause-listed
divide-requires-clause-listed g c = subst (λ ys. IsListed ys c.args.list.now) (sym c.split_at_mut-us.ensures.front) c.requires.listed

pub divide-requires-clause-first : goal.divide-requires-clause-first
divide-requires-clause-first g c = let e = c.in-Some-first_leaving.ensures in rw e.1 e.3
