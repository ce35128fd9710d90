-- Part, join and agreed, on records that have the shape of a diagram, are those calls as they are defined
use Rattle.std.proofs.Common.{◌≡◌, ℕ, suc, ◌+◌, ◌-◌, ◌*◌, ◌<◌, ◌≤◌, true, false, List, [], ◌++◌, length, get_or, drop, Ok, is_ok, sym, ap, ◌∙◌, subst, arith, min, max, refl, ap₂, suc-mul, zero, Bool, ◌&&◌, ◌∷◌, take}
use Rattle.std.proofs.lemmas.Bool.Decides.{nat_tests}
use Rattle.std.proofs.lemmas.Bool.{cond_both, cond-true, and_from, le-leb}
use Rattle.layers.specs.Lawful.{IsLawful}
use Rattle.layers.specs.declared.node.Node.{Node}
use Rattle.layers.specs.Net.{Net, node}
use Rattle.layers.specs.Labels.{all_agree}
use Rattle.layers.specs.Records.{nodes_in, arcs_in, downs_in, labelled_records, padded_targets, layers, arcs_of_layers}
use Rattle.layers.specs.Calls.{Outcome, arcs, layer, parted_arcs, records_with, one_group, part_answer, parted_records, after_part, arrivals as arrivalsIn, join_answer, after_join, nodes, labels, labels_in, places_agree, in_arcs_agree}
use Rattle.layers.specs.Shape.{IsShaped, IsTimely}
use Rattle.layers.proofs.Shaped.{layer-at, relaid-shaped, relaid-timely}
use Rattle.layers.proofs.Proper.{proper-parted-at, proper-join}
use Rattle.labels.specs.Passes.{part, relabelled, blank_node, fits}
use Rattle.labels.proofs.Laying.{Arranged, relabelled-lawful}
use Rattle.split.specs.Steps.{node_count, alike, parted_one, part_check, part_steps, clash_at, joined_one, join_check, join_steps, agreed_to, agreed_layers, agreed_steps}
use Rattle.split.specs.Asked.{Placed}
use Rattle.split.specs.Words.{PartDone, JoinDone, AgreedDone}
use Rattle.split.proofs.Checks.{place_clear, same_check, passed, join-clear, count_most}
use Rattle.split.proofs.LayerNet.{known-standing, known_alike, known-parted, known-tail, known-shaped, count_long, count-at, arranged-at, node-few, count-layer}
use Rattle.layers.specs.Settings.{Setting}
use Rattle.layers.specs.Join.{clash, joined_arcs}
use Rattle.layers.specs.Targets.{targets}
use Rattle.labels.proofs.Overs.{get_d_part}
use Rattle.labels.proofs.RedirectNet.{targets-arranged}
use Rattle.labels.proofs.Shaped_arranged.{proper-good}
use Rattle.split.proofs.DepthNet.{join-arranged, join-tail, clash-table}
use Rattle.std.proofs.lemmas.List.{length-map}

-- ---- part
-- labels worked out anew from the arcs of a net, in a list of which the places after the end stay
pub relaid-same : {S V : Type 0} (by : Setting S V) (xs ys : List (Node S V)) (Ms : Net) → IsLawful by.round.n by.width Ms → Arranged by.width Ms ys → drop (by.round.n * by.width + 1) ys ≡ drop (by.round.n * by.width + 1) xs
    → relabelled by ys ≡ records_with by xs Ms
unfolding records_with
relaid-same by xs ys Ms p arr tail = relabelled-lawful by Ms ys p arr ∙ ap (λ zs. labelled_records by Ms ++ zs) tail

module _ {S V : Type 0} (by : Setting S V) (i a : ℕ) (xs : List (Node S V)) where
  -- what no refusal tells
  part-clear : part_check by i a xs ≡ Ok tt → Placed by.round.n by.width (length xs) i × (1 ≤ a) × (a ≤ node_count ((i - 1) * by.width + by.width) by.width xs) × (alike by ((i - 1) * by.width) a xs ≡ false) × (node_count ((i - 1) * by.width + by.width) by.width xs < by.width)
  unfolding part_check
  part-clear e = (place_clear by.round.n by.width (length xs) i by.round.most (grind (arith, nat_tests)), grind (arith, nat_tests), grind (arith, nat_tests), grind (arith, nat_tests), grind (arith, nat_tests))

  module _ (some : 1 ≤ by.width) (few : by.width ≤ 128) (fit : by.round.n * by.width + 1 ≤ length xs) (s : IsShaped by.round.n by.width xs) where
    -- the in-arcs of a node agree
    group-same : 1 ≤ i → i < by.round.n → 1 ≤ a → alike by ((i - 1) * by.width) a xs ≡ one_group by i a xs
    unfolding one_group
    group-same low high one =
        let k = known-shaped by xs some fit s (i - 1) (omega arith) in
        let back : a ≡ suc (a - 1) = omega arith in
        ap (λ (t : ℕ). alike by ((i - 1) * by.width) t xs) back
        ∙ ap (all_agree by.rule) (known-standing by (i - 1) (arcs by.round.n by.width xs) xs k (a - 1))
        ∙ ap (λ (N : List (Node S V)). all_agree by.rule (arrivalsIn by (downs_in N) (arcs_in by.round.n N) (a - 1))) (sym (layer-at by.width by.round.n (i - 1) xs (omega arith)))

    -- the answer
    pub part-answer : part_check by i a xs ≡ part_answer by i a xs
    unfolding part_check part_answer
    part-answer = grind (arith, nat_tests, count-at by.round.n by.width xs i, group-same)

    -- what it does
    abbrev new : List (Node S V) → Net
    new N = parted_arcs by (i - 1) (a - 1) (downs_in N) (arcs by.round.n by.width xs)

    part-made : ((x : S) → by.rule.same x x ≡ true) → part_check by i a xs ≡ Ok tt
        → IsLawful by.round.n by.width (new (layer by.round.n by.width (i - 1) xs)) × (relabelled by (parted_one by ((i - 1) * by.width) (a - 1) (node_count ((i - 1) * by.width + by.width) by.width xs) xs) ≡ records_with by xs (new (layer by.round.n by.width (i - 1) xs)))
    part-made self e =
        let q = part-clear e in
        let low = q.0.low in
        let high = q.0.high in
        let m = node_count ((i - 1) * by.width + by.width) by.width xs in
        let Ls = arcs by.round.n by.width xs in
        let k = known-shaped by xs some fit s (i - 1) (omega arith) in
        let back : a ≡ suc (a - 1) = omega (arith, q.1) in
        let us = nodes_in (part ((i - 1) * by.width) by.width xs) in
        let em : m ≡ length (get_or Ls (suc (i - 1)) []) = count_long by.round.n by.width xs (i - 1) (omega arith) in
        let apart : all_agree by.rule _ ≡ false = sym (known_alike by (i - 1) Ls xs k (a - 1)) ∙ ap (λ (t : ℕ). alike by ((i - 1) * by.width) t xs) (sym back) ∙ q.3 in
        let ys = parted_one by ((i - 1) * by.width) (a - 1) m xs in
        let p : IsLawful by.round.n by.width (new us) = proper-parted-at by some self (i - 1) (a - 1) (downs_in us) Ls (omega (arith, em, q.1, q.2)) (omega (arith, em, q.4)) apart k.proper in
        let made : relabelled by ys ≡ records_with by xs (new us) =
        relaid-same by xs ys (new us) p (known-parted by (i - 1) Ls xs k (a - 1) m em (omega (arith, q.1, q.2)) q.4) (known-tail by (i - 1) Ls xs k (a - 1) m q.4) in
        subst (λ (N : List (Node S V)). IsLawful by.round.n by.width (new N) × (relabelled by ys ≡ records_with by xs (new N))) (sym (layer-at by.width by.round.n (i - 1) xs (omega arith))) (p, made)

    pub part-words : ((x : S) → by.rule.same x x ≡ true) → part_steps by i a xs ≡ after_part by i a xs
    unfolding part_steps after_part parted_records
    part-words self = same_check (part_check by i a xs) (part_answer by i a xs) _ _ xs part-answer (λ e. (part-made self e).1)

    part-keeps : ((x : S) → by.rule.same x x ≡ true) → (P : List (Node S V) → Type 0) → P xs → (let N = new (layer by.round.n by.width (i - 1) xs) in IsLawful by.round.n by.width N → P (records_with by xs N)) → P (part_steps by i a xs)
    unfolding part_steps
    part-keeps self P old made = cond_both (is_ok (part_check by i a xs)) _ xs P (λ e. let q = part-made self (passed _ e) in subst P (sym q.1) (made q.0)) (λ e. old)

    -- the shape stays
    pub part-shaped : ((x : S) → by.rule.same x x ≡ true) → IsShaped by.round.n by.width (part_steps by i a xs)
    part-shaped self = part-keeps self (IsShaped by.round.n by.width) s (relaid-shaped by some xs _)

    -- and no finish gets late
    pub part-timely : ((x : S) → by.rule.same x x ≡ true) → IsTimely by.round.n by.width xs → IsTimely by.round.n by.width (part_steps by i a xs)
    part-timely self t = part-keeps self (IsTimely by.round.n by.width) t (λ p. relaid-timely by xs _ p.deep)

-- the clause
pub part-said : {S V : Type 0} (by : Setting S V) (self : (x : S) → by.rule.same x x ≡ true) (i a : ℕ) (xs ys : List (Node S V)) (o : Outcome)
    → o ≡ part_check by i a xs → ys ≡ part_steps by i a xs → PartDone by xs i a o ys
part-said by self i a xs ys o said made s =
    let same = part-answer by i a xs s.some s.few s.fit s.shaped in
    (said ∙ same, made ∙ part-words by i a xs s.some s.few s.fit s.shaped self)

-- ---- join
module _ {S V : Type 0} (by : Setting S V) (i a b : ℕ) (xs : List (Node S V)) where
  abbrev z : Node S V
  z = blank_node by.rule by.tally

  module _ (some : 1 ≤ by.width) (few : by.width ≤ 128) (fit : by.round.n * by.width + 1 ≤ length xs) (s : IsShaped by.round.n by.width xs) where
    -- the targets of a record of the layer
    record-targets : (c : ℕ) → 1 ≤ i → i < by.round.n → 1 ≤ c → c ≤ by.width → targets (get_or xs ((i - 1) * by.width + by.width + (c - 1)) z) ≡ padded_targets (node (get_or (arcs by.round.n by.width xs) i []) (c - 1))
    record-targets c low high one most =
        let Ls = arcs by.round.n by.width xs in
        let k = known-shaped by xs some fit s (i - 1) (omega arith) in
        let back : suc (i - 1) ≡ i = omega arith in
        let same : suc (i - 1) * by.width ≡ i * by.width = ap (λ (k : ℕ). k * by.width) back in
        let e : (i - 1) * by.width + by.width ≡ i * by.width = omega (arith, suc-mul (i - 1) by.width, same) in
        ap targets (ap (λ (p : ℕ). get_or xs (p + (c - 1)) z) e ∙ sym (get_d_part (i * by.width) by.width xs (c - 1) z (omega arith)))
        ∙ targets-arranged by.width (get_or Ls i []) (part (i * by.width) by.width xs) (c - 1) z (arranged-at by.width i Ls xs (omega (arith, k.proper.deep)) k.arranged) (omega arith)

    clash-same : 1 ≤ i → i < by.round.n → 1 ≤ a → a ≤ by.width → 1 ≤ b → b ≤ by.width
        → clash_at z ((i - 1) * by.width + by.width) a b xs ≡ clash (node (get_or (arcs by.round.n by.width xs) i []) (min a b - 1)) (node (get_or (arcs by.round.n by.width xs) i []) (max a b - 1))
    clash-same low high la ha lb hb =
        let L = get_or (arcs by.round.n by.width xs) i [] in
        let k = known-shaped by xs some fit s (i - 1) (omega arith) in
        ap₂ clash (record-targets (min a b) low high (omega arith) (omega arith)) (record-targets (max a b) low high (omega arith) (omega arith))
        ∙ clash-table 16 (node L (min a b - 1)) (node L (max a b - 1)) (node-few by.round by.width i (arcs by.round.n by.width xs) k.proper (min a b - 1))

    -- the answer
    pub join-answer : join_check by i a b xs ≡ join_answer by i a b xs
    unfolding join_check join_answer
    join-answer = grind (arith, nat_tests, count-at by.round.n by.width xs i, count_most ((i - 1) * by.width + by.width) by.width xs, clash-same)

    -- what it does
    abbrev joined : Net
    joined = joined_arcs (i - 1) (min a b - 1) (max a b - 1) (arcs by.round.n by.width xs)

    join-made : join_check by i a b xs ≡ Ok tt → IsLawful by.round.n by.width joined × (relabelled by (joined_one by ((i - 1) * by.width) (min a b - 1) (max a b - 1) xs) ≡ records_with by xs joined)
    unfolding joined_one
    join-made e =
        let q = join-clear by i a b xs e in
        let low = q.placed.low in
        let high = q.placed.high in
        let Ls = arcs by.round.n by.width xs in
        let d = i - 1 in
        let lo = min a b - 1 in
        let hi = max a b - 1 in
        let k = known-shaped by xs some fit s d (omega arith) in
        let deep : suc d < length Ls = omega (arith, k.proper.deep) in
        let back : i ≡ suc d = omega arith in
        let m = node_count (d * by.width + by.width) by.width xs in
        let em : m ≡ length (get_or Ls (suc d) []) = count_long by.round.n by.width xs d (omega arith) in
        let top = count_most (d * by.width + by.width) by.width xs in
        let order : lo < hi = omega (arith, q.low_a, q.low_b, q.apart) in
        let inside : hi < length (get_or Ls (suc d) []) = omega (arith, em, q.high_a, q.high_b, q.low_a, q.low_b, q.apart) in
        let clear : clash (node (get_or Ls (suc d) []) lo) (node (get_or Ls (suc d) []) hi) ≡ false =
        sym (clash-same low high q.low_a (omega (arith, q.high_a)) q.low_b (omega (arith, q.high_b)) ∙ ap (λ (j : ℕ). clash (node (get_or Ls j []) lo) (node (get_or Ls j []) hi)) back) ∙ q.calm in
        let ys = joined_one by (d * by.width) lo hi xs in
        let p : IsLawful by.round.n by.width joined = proper-join by some d lo hi Ls order inside clear k.proper in
        let made : relabelled by ys ≡ records_with by xs joined =
        relaid-same by xs ys joined p
        (join-arranged by.width d lo hi z Ls xs (proper-good by.round by.width Ls k.proper) deep order inside refl k.arranged)
        (join-tail by.round.n by.width d lo hi z xs k.deep (omega (arith, q.high_a, q.high_b, q.low_a, q.low_b)) fit) in
        (p, made)

    pub join-words : join_steps by i a b xs ≡ after_join by i a b xs
    unfolding join_steps after_join
    join-words = same_check (join_check by i a b xs) (join_answer by i a b xs) _ _ xs join-answer (λ e. (join-made e).1)

    join-keeps : (P : List (Node S V) → Type 0) → P xs → (IsLawful by.round.n by.width joined → P (records_with by xs joined)) → P (join_steps by i a b xs)
    unfolding join_steps
    join-keeps P old made = cond_both (is_ok (join_check by i a b xs)) _ xs P (λ e. let q = join-made (passed _ e) in subst P (sym q.1) (made q.0)) (λ e. old)

    -- the shape stays
    pub join-shaped : IsShaped by.round.n by.width (join_steps by i a b xs)
    join-shaped = join-keeps (IsShaped by.round.n by.width) s (relaid-shaped by some xs joined)

    -- and no finish gets late
    pub join-timely : IsTimely by.round.n by.width xs → IsTimely by.round.n by.width (join_steps by i a b xs)
    join-timely t = join-keeps (IsTimely by.round.n by.width) t (λ p. relaid-timely by xs joined p.deep)

-- the clause
pub join-said : {S V : Type 0} (by : Setting S V) (i a b : ℕ) (xs ys : List (Node S V)) (o : Outcome)
    → o ≡ join_check by i a b xs → ys ≡ join_steps by i a b xs → JoinDone by xs i a b o ys
join-said by i a b xs ys o said made s =
    let same = join-answer by i a b xs s.some s.few s.fit s.shaped in
    (said ∙ same, made ∙ join-words by i a b xs s.some s.few s.fit s.shaped)

-- ---- agreed
-- the first k, from the last on
abbrev up_to : ℕ → (ℕ → Bool) → Bool
up_to zero f = true
up_to (suc k) f = f k && up_to k f

up_first : (k : ℕ) (f : ℕ → Bool) → up_to (suc k) f ≡ (f 0 && up_to k (λ j. f (suc j)))
up_first zero f = refl
up_first (suc k) f = grind (arith, up_first k f)

module _ {S V : Type 0} (by : Setting S V) where
  -- the nodes N agree, of which the layer before has the arcs
  abbrev after : List (Node S V) → ℕ → Bool
  after N m = places_agree by (downs_in N) (arcs_in by.round.n N) m

  abbrev here : List (List (Node S V)) → ℕ → Bool
  here Ns j = after (get_or Ns j []) (length (get_or Ns (suc j) []))

  -- layer by layer
  all_up : (k : ℕ) (Ns : List (List (Node S V))) → length Ns ≡ suc (suc k) → in_arcs_agree by (arcs_of_layers by.round.n Ns) (labels_in Ns) ≡ up_to k (here Ns)
  unfolding in_arcs_agree
  all_up k [] e = absurd (omega arith)
  all_up k (N ∷ []) e = absurd (omega arith)
  all_up zero (N ∷ M ∷ []) e = refl
  all_up (suc k) (N ∷ M ∷ []) e = absurd (omega arith)
  all_up zero (N ∷ M ∷ K ∷ Ns) e = absurd (omega arith)
  all_up (suc k) (N ∷ M ∷ K ∷ Ns) e =
      ap₂ ◌&&◌ (ap (after N) (length-map M (λ (x : Node S V). take by.round.n x.arcs.to))) (all_up k (M ∷ K ∷ Ns) (omega arith)) ∙ sym (up_first k (here (N ∷ M ∷ K ∷ Ns)))

  layers-long : (W k : ℕ) (xs : List (Node S V)) → length (layers W k xs) ≡ suc k
  layers-long W zero xs = refl
  layers-long W (suc k) xs = ap suc (layers-long W k (drop W xs))

  module _ (xs : List (Node S V)) (some : 1 ≤ by.width) (few : by.width ≤ 128) (fit : by.round.n * by.width + 1 ≤ length xs) (s : IsShaped by.round.n by.width xs) where
    layer-same : (d : ℕ) → suc d < by.round.n → (b : ℕ) → agreed_to by b (part (d * by.width) by.width xs) ≡ after (nodes_in (part (d * by.width) by.width xs)) b
    unfolding agreed_to places_agree
    layer-same d lt zero = refl
    layer-same d lt (suc b) = ap₂ ◌&&◌ (ap (all_agree by.rule) (known-standing by d (arcs by.round.n by.width xs) xs (known-shaped by xs some fit s d lt) b)) (layer-same d lt b)

    layers-same : (k : ℕ) → suc k ≤ by.round.n → agreed_layers by k xs ≡ up_to k (here (nodes by.round.n by.width xs))
    unfolding agreed_layers
    layers-same zero le = refl
    layers-same (suc k) le =
        ap₂ ◌&&◌
        (layer-same k le (node_count (k * by.width + by.width) by.width xs)
        ∙ ap₂ after (sym (layer-at by.width by.round.n k xs (omega arith))) (count-layer by.round.n by.width xs k le))
        (layers-same k (omega arith))

    pub agreed-words : agreed_steps by xs ≡ in_arcs_agree by (arcs by.round.n by.width xs) (labels by.round.n by.width xs)
    unfolding agreed_steps
    agreed-words =
        let one = by.round.one in
        let deep : length (nodes by.round.n by.width xs) ≡ suc (suc (by.round.n - 1)) = (let e = layers-long by.width by.round.n xs in omega arith) in
        cond-true (fits by.round.n by.width (length xs)) _ _ (and_from _ _ (le-leb 1 by.width some) (and_from _ _ (le-leb by.width 128 few) (le-leb (by.round.n * by.width + 1) (length xs) fit)))
        ∙ layers-same (by.round.n - 1) (omega arith)
        ∙ sym (all_up (by.round.n - 1) (nodes by.round.n by.width xs) deep)

  -- the clause
  pub agreed-said : (xs : List (Node S V)) (b : Bool) → b ≡ agreed_steps by xs → AgreedDone by xs b
  agreed-said xs b made s = made ∙ agreed-words xs s.some s.few s.fit s.shaped
