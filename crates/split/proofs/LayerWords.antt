-- Parting a layer of records that are laid out is parting the layer of the net.
use Rattle.std.proofs.Common.{◌≡◌, ℕ, zero, suc, ◌+◌, ◌-◌, ◌*◌, ◌<◌, ◌≤◌, Bool, true, false, cond, leb, ltb, List, [], ◌∷◌, ◌++◌, length, get_or, take, drop, Option, Ok, sym, refl, ap, ◌∙◌, subst, ap₂, arith}
use Rattle.std.proofs.lemmas.List.{length-append}
use Rattle.std.proofs.lemmas.Bool.Decides.{nat_tests}
use Rattle.std.proofs.lemmas.Bool.{leb-false}
use Rattle.layers.specs.Lawful.{IsLawful}
use Rattle.layers.specs.declared.node.Node.{Node}
use Rattle.layers.specs.Net.{Net, node, width}
use Rattle.layers.specs.Flow.{arrivals_at}
use Rattle.layers.specs.Labels.{first_labels, labels_next, all_agree, arrival_over}
use Rattle.layers.specs.Records.{nodes_in, downs_in, arcs_read, laid_arcs, labelled_records}
use Rattle.layers.specs.Calls.{parted_arcs, arcs, records_with, count_of, one_group as oneGroupIn, parted_records, parts_of_layer}
use Rattle.layers.proofs.Bridge.{laid-long}
use Rattle.layers.proofs.Model.{part_at, labels_at}
use Rattle.layers.proofs.Shaped.{layer-at, shaped-proper}
use Rattle.layers.proofs.Standing.{arcs-X, written, at-X, Reached, count-of, group-of, reached-part}
use Rattle.layers.proofs.Tied.{redirect-length}
use Rattle.layers.proofs.Ways.{length-snoc}
use Rattle.labels.specs.Passes.{part}
use Rattle.labels.proofs.Laying.{Arranged, arranged-of}
use Rattle.split.specs.Steps.{place_check, node_count, alike, parted_one, parts_from, layer_steps}
use Rattle.split.specs.Words.{LayerDone}
use Rattle.split.proofs.LayerNet.{Known, stand-same, known_alike, known-parted, known-tail, known-length, known-labels, count-at}
use Rattle.split.proofs.CallWords.{relaid-same}
use Rattle.layers.specs.Settings.{Setting}
use Rattle.layers.specs.declared.node.Down.{Down}

-- ---- the net: parting a layer leaves the layers before it, but for their arcs to it
module _ {S V : Type 0} (by : Setting S V) (w : 1 ≤ by.width) where
  -- the labels of the layer before, how many nodes it has, and one more in its own layer
  net-parted : (d a : ℕ) (ls : List (Option (Down S V))) (Ls : Net) → (width (part_at by d a ls Ls) ≡ width Ls) × (labels_at by d ls (part_at by d a ls Ls) ≡ labels_at by d ls Ls)
      × (length (get_or (part_at by d a ls Ls) d []) ≡ length (get_or Ls d [])) × (suc d < length Ls → length (get_or (part_at by d a ls Ls) (suc d) []) ≡ suc (length (get_or Ls (suc d) [])))
  unfolding parted_arcs
  net-parted zero a ls [] = (refl, refl, refl, λ lt. absurd (omega arith))
  net-parted (suc d) a ls [] = (refl, refl, refl, λ lt. absurd (omega arith))
  net-parted zero a ls (L ∷ []) = (refl, refl, refl, λ lt. absurd (omega arith))
  net-parted zero a ls (L ∷ M ∷ Ls) = (redirect-length _ L, refl, redirect-length _ L, λ lt. length-snoc M (node M a))
  net-parted (suc d) a ls (L ∷ Ls) =
      let ls' = labels_next by ls L (width Ls) in
      let q = net-parted d a ls' Ls in
      (refl, ap (λ (m : ℕ). labels_at by d (labels_next by ls L m) (part_at by d a ls' Ls)) q.0 ∙ q.1, q.2, λ lt. q.3 (omega arith))

-- two choices by one test
same_way : {A B : Type 0} (Q : A → B → Type 0) (s t : Bool) (x y : A) (u v : B) → s ≡ t → (t ≡ true → Q x u) → (t ≡ false → Q y v) → Q (cond s x y) (cond t u v)
same_way Q s true x y u v e f g = rw e (f refl)
same_way Q s false x y u v e f g = rw e (g refl)

-- ---- the records: p is what is said of the records zs of a net, and q what is done with the records xs; P is kept by each part
module _ {S V : Type 0} (by : Setting S V) (w : 1 ≤ by.width) (later : List (Node S V)) (P : Net → List (Node S V) → Type 0) where
  pub record Done (xs : List (Node S V)) (p q : Bool × List (Node S V)) : Type 0 where
    pub answer : q.0 ≡ p.0
    pub left : Reached by w later (λ Ls. Arranged by.width Ls q.1 × P Ls q.1) p.1
    pub tail : drop (by.round.n * by.width + 1) q.1 ≡ drop (by.round.n * by.width + 1) xs
    pub long : length q.1 ≡ length xs

  -- what is asked of P
  pub record KeptByParts (d : ℕ) : Type 0 where
    pub start : (Ls : Net) → IsLawful by.round.n by.width Ls → P Ls (labelled_records by Ls ++ later)
    pub step : (a m : ℕ) (ls : List (Option (Down S V))) (Ls : Net) (xs : List (Node S V)) → Known by d Ls xs → IsLawful by.round.n by.width (parted_arcs by d a ls Ls) → m ≡ length (get_or Ls (suc d) []) → a < m → m < by.width
        → P Ls xs → P (parted_arcs by d a ls Ls) (parted_one by (d * by.width) a m xs)

  module _ (self : (s : S) → by.rule.same s s ≡ true) (i : ℕ) (low : 1 ≤ i) (high : i < by.round.n) (keeps : KeptByParts (i - 1)) where
    -- what is known at each turn: the labels of the layer before are those of the net
    record State (xs : List (Node S V)) (Ls : Net) : Type 0 where
      known : Known by (i - 1) Ls xs
      labelled : downs_in (nodes_in (part ((i - 1) * by.width) by.width xs)) ≡ labels_at by (i - 1) (first_labels by.rule by.tally) Ls
      kept : P Ls xs

    abbrev At : List (Node S V) → List (Node S V) → Type 0
    At xs zs = Reached by w later (State xs) zs

    back : i ≡ suc (i - 1)
    back = omega arith

    group-same : (xs zs : List (Node S V)) (r : At xs zs) (a : ℕ) → alike by ((i - 1) * by.width) (suc a) xs ≡ oneGroupIn by i (suc a) zs
    group-same xs zs r a =
        known_alike by (i - 1) r.net xs r.holds.known a
        ∙ ap (λ ls. all_agree by.rule (arrivals_at (arrival_over by) a ls (get_or r.net (i - 1) []))) r.holds.labelled
        ∙ sym (group-of by w later (State xs) zs r i (suc a) (i - 1) a back refl high)

    -- parting a node
    module _ (xs zs : List (Node S V)) (r : At xs zs) (a m : ℕ) (em : m ≡ count_of by i zs) (al : a < m) (ml : m < by.width) (apart : oneGroupIn by i (suc a) zs ≡ false) where
      abbrev Ms : Net
      Ms = part_at by (i - 1) a (first_labels by.rule by.tally) r.net

      abbrev ys : List (Node S V)
      ys = parted_one by ((i - 1) * by.width) a m xs

      abbrev parted : List (Node S V)
      parted = parted_records by i (suc a) zs

      in-net : m ≡ length (get_or r.net (suc (i - 1)) [])
      in-net = em ∙ count-of by w later (State xs) zs r i (i - 1) back high

      next-known : IsLawful by.round.n by.width Ms → State ys Ms
      next-known p =
          let k = r.holds.known in
          let d = i - 1 in
          let same = known-labels by d r.net xs k a m in
          let us = part (d * by.width) by.width xs in
          let vs = part (d * by.width) by.width ys in
          record {
            known = record {
              proper = p;
              arranged = rw (← r.holds.labelled) (known-parted by d r.net xs k a m in-net al ml);
              fit = omega (arith, k.fit, known-length by d r.net xs a m);
              deep = k.deep;
              stand = (stand-same vs us same).1 ∙ k.stand ∙ sym ((net-parted by w d a (first_labels by.rule by.tally) r.net).2);
            };
            labelled = (stand-same vs us same).0 ∙ r.holds.labelled ∙ sym ((net-parted by w d a (first_labels by.rule by.tally) r.net).1);
            kept = keeps.step a m (labels_at by d (first_labels by.rule by.tally) r.net) r.net xs k p in-net al ml r.holds.kept;
          }

      next-at : At ys parted
      next-at =
          let q = reached-part by w later self (λ Ls. Unit {0}) i (suc a) (i - 1) a zs back refl high (omega arith) apart (omega arith) (record { net = r.net; well = r.well; is = r.is; holds = tt }) tt in
          record { net = q.net; well = q.well; is = q.is; holds = next-known q.well }

      next-count : suc m ≡ count_of by i parted
      unfolding next-at
      next-count = ap suc in-net ∙ sym ((net-parted by w (i - 1) a (first_labels by.rule by.tally) r.net).3 (omega (arith, r.holds.known.deep, r.well.deep))) ∙ sym (count-of by w later (State ys) parted next-at i (i - 1) back high)

      next-done : (p q : Bool × List (Node S V)) → Done ys p q → Done xs p q
      next-done p q t = record {
        answer = t.answer;
        left = t.left;
        tail = t.tail ∙ known-tail by (i - 1) r.net xs r.holds.known a m ml;
        long = t.long ∙ known-length by (i - 1) r.net xs a m;
      }

    -- all turns
    done-here : (xs zs : List (Node S V)) → At xs zs → (b : Bool) → Done xs (b, zs) (b, xs)
    done-here xs zs r b = record { answer = refl; left = record { net = r.net; well = r.well; is = r.is; holds = (r.holds.known.arranged, r.holds.kept) }; tail = refl; long = refl }

    parts-done : (k a m : ℕ) (xs zs : List (Node S V)) → At xs zs → m ≡ count_of by i zs → Done xs (parts_of_layer by k i (suc a) zs) (parts_from by ((i - 1) * by.width) k a m xs)
    unfolding parts_of_layer parts_from
    parts-done zero a m xs zs r em = done-here xs zs r false
    parts-done (suc k) a m xs zs r em =
        let next : a < m → m < by.width → oneGroupIn by i (suc a) zs ≡ false
        → Done xs (parts_of_layer by k i (suc (suc a)) (parted_records by i (suc a) zs)) (parts_from by ((i - 1) * by.width) k (suc a) (suc m) (parted_one by ((i - 1) * by.width) a m xs)) =
        λ al ml e. next-done xs zs r a m em al ml e _ _ (parts-done k (suc a) (suc m) _ _ (next-at xs zs r a m em al ml e) (next-count xs zs r a m em al ml e)) in
        let out : ltb (count_of by i zs) (suc a) ≡ leb m a = grind (arith, nat_tests, em) in
        same_way (Done xs) (ltb (count_of by i zs) (suc a)) (leb m a) _ _ _ _ out (λ e. done-here xs zs r false) (λ e.
        same_way (Done xs) (oneGroupIn by i (suc a) zs) (alike by ((i - 1) * by.width) (suc a) xs) _ _ _ _ (sym (group-same xs zs r a)) (λ f. parts-done k (suc a) m xs zs r em) (λ f.
        same_way (Done xs) (leb by.width (count_of by i zs)) (leb by.width m) _ _ _ _ (ap (leb by.width) (sym em)) (λ g. done-here xs zs r true) (λ g.
        next (leb-false m a e) (leb-false by.width m g) (sym (group-same xs zs r a) ∙ f))))

    -- ---- records that are laid out
    module _ (Ls : Net) (p : IsLawful by.round.n by.width Ls) where
      abbrev laid : List (Node S V)
      laid = labelled_records by Ls ++ later

      all-long : length Ls * by.width + 1 ≡ by.round.n * by.width + 1
      all-long = ap (λ (k : ℕ). k * by.width + 1) p.deep

      laid-fit : by.round.n * by.width + 1 ≤ length laid
      unfolding labelled_records
      laid-fit = omega (arith, all-long, laid-long by w (first_labels by.rule by.tally) Ls, length-append (labelled_records by Ls) later)

      laid-state : State laid Ls
      laid-state =
          let q = at-X by w later (i - 1) Ls p (omega arith) in
          let N = layer-at by.width by.round.n (i - 1) laid (omega arith) in
          record {
            known = record {
              proper = p;
              arranged = arranged-of by.width Ls laid (omega (arith, all-long, laid-fit)) (ap (λ (k : ℕ). arcs_read (take k laid)) all-long ∙ written by w later Ls p ∙ ap (laid_arcs by.width) (arcs-X by w later Ls p));
              fit = laid-fit;
              deep = omega arith;
              stand = ap (λ (M : List (Node S V)). length M) (sym N) ∙ q.2;
            };
            labelled = ap downs_in (sym N) ∙ q.0;
            kept = keeps.start Ls p;
          }

      laid-done : by.width ≤ 128 → Done laid (parts_of_layer by by.width i 1 laid) (layer_steps by i laid)
      unfolding layer_steps
      laid-done few =
          let clear : place_check by.round.n by.width (length laid) i ≡ Ok tt = grind (arith, nat_tests, w, few, laid-fit, low, high) in
          let r : At laid laid = record { net = Ls; well = p; is = refl; holds = laid-state } in
          rw clear (parts-done by.width 0 (node_count ((i - 1) * by.width + by.width) by.width laid) laid laid r (count-at by.round.n by.width laid i low high))

    -- the layer parted
    pub layer-net : by.width ≤ 128 → (xs : List (Node S V)) → Reached by w later (λ Ls. Unit {0}) xs → Done xs (parts_of_layer by by.width i 1 xs) (layer_steps by i xs)
    layer-net few xs r = subst (λ (ys : List (Node S V)). Done ys (parts_of_layer by by.width i 1 ys) (layer_steps by i ys)) (sym r.is) (laid-done r.net r.well few)

-- the clause
pub layer-said : {S V : Type 0} (by : Setting S V) (self : (s : S) → by.rule.same s s ≡ true) (i : ℕ) (xs ys : List (Node S V)) (b : Bool) → (b, ys) ≡ layer_steps by i xs → LayerDone by xs i b ys
unfolding records_with
layer-said {S} {V} by self i xs ys b made s stays low high =
    let free : Net → List (Node S V) → Type 0 = λ Ls zs. Unit {0} in
    let later = drop (by.round.n * by.width + 1) xs in
    let r : Reached by s.some later (λ Ls. Unit {0}) xs = record { net = arcs by.round.n by.width xs; well = shaped-proper by.round by.width xs s.shaped; is = sym stays; holds = tt } in
    let d : Done by s.some later free xs (parts_of_layer by by.width i 1 xs) (b, ys) = subst (Done by s.some later free xs (parts_of_layer by by.width i 1 xs)) (sym made) (layer-net by s.some later free self i low high (record { start = λ Ls p. tt; step = λ a m ls Ls xs k p e al ml h. tt }) s.few xs r) in
    ap₂ (λ (q : Bool) (zs : List (Node S V)). (q, zs)) d.answer (relaid-same by xs ys d.left.net d.left.well d.left.holds.0 d.tail ∙ sym d.left.is)
