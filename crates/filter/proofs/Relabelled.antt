-- Where the arcs stay, as many stay.
use Rattle.std.proofs.Common.{◌≡◌, ℕ, ◌-◌, ◌*◌, Bool, true, false, eqb, if◌then◌else◌, List, map, take, sum_by, refl, sym, ap, ◌∙◌, inl, inr}
use Rattle.std.proofs.lemmas.Bool.{cases_Bool, cond_both}
use Rattle.layers.specs.declared.node.Node.{Node}
use Rattle.layers.specs.Settings.{Setting}
use Rattle.labels.specs.Passes.{begun, pass_up, relabelled, relabelled_used}
use Rattle.labels.proofs.Climbs.{arcs_of}
use Rattle.labels.proofs.Keeps.{fronts, rises_keep, renewals-keep, begun-keeps, relabelled-arcs}
use Rattle.filter.specs.Steps.{arc_count, none_goes, thinned, anew, filter_steps, filter_labelled_steps}
use Rattle.filter.proofs.CountNet.{count_of, by-arcs}
use Rattle.filter.proofs.KeptNet.{Goes}

pub same-count : {S V : Type 0} (n W : ℕ) (xs ys : List (Node S V)) → map arcs_of xs ≡ map arcs_of ys → arc_count n W xs ≡ arc_count n W ys
unfolding arc_count
same-count n W xs ys e = by-arcs (take (n * W) xs) ∙ ap (sum_by count_of) (fronts arcs_of (n * W) xs ys e) ∙ sym (by-arcs (take (n * W) ys))

-- labelling anew lets them stay
pub anew-arcs : {S V : Type 0} (by : Setting S V) (labelled : Bool) (gone : ℕ) (xs : List (Node S V)) → map arcs_of (anew by labelled gone xs) ≡ map arcs_of xs
unfolding relabelled_used pass_up
anew-arcs by false gone xs = relabelled-arcs by xs
anew-arcs by true gone xs = cond_both (eqb gone 0) xs (relabelled_used by xs) (λ ys. map arcs_of ys ≡ map arcs_of xs) (λ e. refl)
    (λ e. rises_keep arcs_of (λ x u. refl) by.round by.width (by.round.n - 1) _ ∙ renewals-keep by arcs_of (λ x l. refl) (by.round.n - 1) (begun by.rule by.tally xs) ∙ begun-keeps by arcs_of (λ x l. refl) xs)

-- so the steps of a filter
pub anew-steps : {S V : Type 0} (by : Setting S V) (goes : Goes S V) (labelled : Bool) (gone : ℕ) (xs ys : List (Node S V)) → ys ≡ thinned by goes xs → eqb gone 0 ≡ none_goes goes by.round.n by.width xs
    → anew by labelled gone ys ≡ (if labelled then filter_labelled_steps by goes xs else filter_steps by goes xs)
unfolding filter_steps filter_labelled_steps thinned
anew-steps by goes false gone xs ys e none = ap (relabelled by) e
anew-steps by goes true gone xs ys e none = rw (e, none) (elim (cases_Bool (none_goes goes by.round.n by.width xs)) [ inl q ↦ rw q | inr q ↦ rw q ])
