-- Records that are proper arcs with the labels worked out from them: opened records are such, and so is what every list of calls leaves.
use Rattle.std.proofs.Common.{◌≡◌, ℕ, zero, suc, ◌+◌, ◌-◌, ◌*◌, ◌<◌, ◌≤◌, min, max, Bool, true, false, ◌&&◌, eqb, List, [], ◌∷◌, ◌++◌, length, get_or, take, drop, Option, sym, refl, ap, ◌∙◌, ap₂, arith}
use Rattle.std.proofs.lemmas.Bool.Decides.{nat_tests}
use Rattle.std.proofs.lemmas.List.{map-append, take_at}
use Rattle.layers.specs.Lawful.{IsLawful}
use Rattle.layers.specs.declared.node.Node.{Node}
use Rattle.layers.specs.declared.node.Down.{Down}
use Rattle.layers.specs.declared.node.Up.{Up}
use Rattle.layers.specs.Net.{table, Net, node, width, count_arcs}
use Rattle.layers.specs.Tidy.{tidied_arcs}
use Rattle.layers.specs.Join.{clash, joined_arcs}
use Rattle.layers.specs.Labels.{is_barred, is_above_ceiling, is_past_late, first_labels, labels_next, ups, opening_arcs}
use Rattle.layers.specs.Records.{layers, arcs_in, downs_in, arcs_read, laid_arcs, record_of_place, labelled_from, labelled_records}
use Rattle.layers.specs.declared.call.Call.{Call}
use Rattle.layers.specs.declared.call.Call.TheVariants.{Sweep, Part, Join, Cut, Refine, Backsweep}
use Rattle.layers.specs.Calls.{EachCut, kept_arcs, nodes, arcs, labels, layer, records_with, after_open, arcs_lost, after_sweep, sweep_answer, after_cut, after_backsweep, count_of, part_answer, parted_records, after_part, join_answer, after_join, parts_of_layer, refinement_from, after_sweeps, refinement, after_call, after_calls, bound, is_settled, in_arcs_agree, value_in, one_group as oneGroupIn}
use Rattle.layers.proofs.Model.{kept, sweep, cut, backsweep, one_group, part_at, agrees, settles, bound as boundOf, settled as settled_of, labels_at}
use Rattle.layers.proofs.Counts.{kept-same, sweep-fewer, settled-yes, settled-if}
use Rattle.layers.proofs.Bridge.{Full, stood, map-table, full-first, layers-laid, drawn-stood, kept-stood, agrees-stood, stood-at, value-stood, laid-long, later-stays}
use Rattle.layers.proofs.Proper.{proper-opened, proper-kept, proper-parted-at, proper-join}
use Rattle.layers.specs.Settings.{Setting}

-- ---- what sweep, part, join, cut and backsweep each keep, every list of calls keeps
module _ {S V : Type 0} (by : Setting S V) where
  abbrev pub Recs : Type 0
  Recs = List (Node S V)

  -- P is kept by each of them that is not refused, and by cuts at ceilings of which Q holds
  pub record KeptBySteps (P : Recs → Type 0) (Q : V → Type 0) : Type 0 where
    pub sweep : (xs : Recs) → P xs → P (after_sweep by xs)
    pub cut : (c : V) (xs : Recs) → Q c → P xs → P (after_cut by c xs)
    pub backsweep : (xs : Recs) → P xs → P (after_backsweep by xs)
    pub part : (i a : ℕ) (xs : Recs) → 1 ≤ i → i < by.round.n → 1 ≤ a → a ≤ count_of by i xs → oneGroupIn by i a xs ≡ false → count_of by i xs < by.width → P xs → P (parted_records by i a xs)
    pub join : (i lo hi : ℕ) (xs : Recs) → 1 ≤ i → i < by.round.n → lo < hi → hi < count_of by i xs
        → let D = arcs by.round.n by.width xs in clash (node (get_or D i []) lo) (node (get_or D i []) hi) ≡ false → P xs → P (records_with by xs (joined_arcs (i - 1) lo hi D))

  module _ (P : Recs → Type 0) (Q : V → Type 0) (k : KeptBySteps P Q) where
    kept-part : (i a : ℕ) (xs : Recs) → P xs → P (after_part by i a xs)
    unfolding after_part part_answer
    kept-part i a xs p = grind (arith, nat_tests, p, k.part i a xs)

    kept-join : (i a b : ℕ) (xs : Recs) → P xs → P (after_join by i a b xs)
    unfolding after_join join_answer
    kept-join i a b xs p = grind (arith, nat_tests, p, k.join i (min a b - 1) (max a b - 1) xs)

    kept-parts : (m i a : ℕ) (xs : Recs) → 1 ≤ i → i < by.round.n → 1 ≤ a → P xs → P (parts_of_layer by m i a xs).1
    unfolding parts_of_layer
    kept-parts zero i a xs lo hi one p = p
    kept-parts (suc m) i a xs lo hi one p = grind (arith, nat_tests, p, kept-parts m i (suc a), k.part i a xs)

    pub kept-layers : (m i : ℕ) (xs : Recs) → 1 ≤ i → i + m ≤ by.round.n → P xs → P (refinement_from by m i xs).1
    unfolding refinement_from
    kept-layers zero i xs lo hi p = p
    kept-layers (suc m) i xs lo hi p =
        let q = kept-parts by.width i 1 (after_sweep by xs) lo (omega arith) (omega arith) (k.sweep xs p) in
        grind (arith, q, kept-layers m (suc i))

    kept-sweeps : (m : ℕ) (xs : Recs) → P xs → P (after_sweeps by m xs)
    unfolding after_sweeps
    kept-sweeps zero xs p = p
    kept-sweeps (suc m) xs p = let q = k.sweep xs p in grind (arith, q, kept-sweeps m (after_sweep by xs) q)

    kept-refine : (xs : Recs) → P xs → P (refinement by xs).1
    unfolding refinement
    kept-refine xs p =
        let ys = (refinement_from by (by.round.n - 1) 1 xs).1 in
        kept-sweeps (suc (count_arcs (arcs by.round.n by.width ys))) ys (kept-layers (by.round.n - 1) 1 xs (omega arith) (omega (arith, by.round.one)) p)

    pub kept-calls : (cs : List (Call V)) (xs : Recs) → EachCut Q cs → P xs → P (after_calls by cs xs)
    unfolding after_call
    kept-calls [] xs u p = p
    kept-calls (Sweep ∷ cs) xs u p = kept-calls cs (after_sweep by xs) u (k.sweep xs p)
    kept-calls (Part i a ∷ cs) xs u p = kept-calls cs (after_part by i a xs) u (kept-part i a xs p)
    kept-calls (Join i a b ∷ cs) xs u p = kept-calls cs (after_join by i a b xs) u (kept-join i a b xs p)
    kept-calls (Cut c ∷ cs) xs u p = kept-calls cs (after_cut by c xs) u.1 (k.cut c xs u.0 p)
    kept-calls (Refine ∷ cs) xs u p = kept-calls cs (refinement by xs).1 u (kept-refine xs p)
    kept-calls (Backsweep ∷ cs) xs u p = kept-calls cs (after_backsweep by xs) u (k.backsweep xs p)

any-cut : {V : Type 0} (cs : List (Call V)) → EachCut (λ c. Unit {0}) cs
any-cut [] = tt
any-cut (Cut c ∷ cs) = (tt, any-cut cs)
any-cut (c ∷ cs) = any-cut cs

module _ {S V : Type 0} (by : Setting S V) (w : 1 ≤ by.width) (later : List (Node S V)) where
  abbrev Well : Net → Type 0
  Well Ls = IsLawful by.round.n by.width Ls

  abbrev first : List (Option (Down S V))
  first = first_labels by.rule by.tally

  -- the records of these arcs
  abbrev pub X : Net → List (Node S V)
  X Ls = labelled_records by Ls ++ later

  pub full : (Ls : Net) → Well Ls → Full by w first Ls
  full [] p = absurd (omega (arith, p.deep, by.round.one))
  full (L ∷ Ls) p = full-first by w L Ls p.one_first p.tied p.roomy p.even

  -- the nodes that stand are those of the arcs, with the labels worked out from the arcs
  pub nodes-X : (Ls : Net) → Well Ls → nodes by.round.n by.width (X Ls) ≡ stood by w first Ls
  unfolding labelled_records
  nodes-X Ls p = ap (λ (k : ℕ). layers by.width k (labelled_records by Ls ++ later)) (sym p.deep) ∙ layers-laid by w later first Ls (full Ls p)

  pub arcs-X : (Ls : Net) → Well Ls → arcs by.round.n by.width (X Ls) ≡ Ls
  arcs-X Ls p = rw (nodes-X Ls p) (drawn-stood by w first Ls (full Ls p))

  -- the arcs as they were written
  written_from : (labs : List (Option (Down S V))) (Ls : Net) → arcs_read (labelled_from by labs Ls) ≡ laid_arcs by.width Ls
  unfolding labelled_from
  written_from labs [] = refl
  written_from labs (L ∷ Ls) =
      let here = record_of_place by L labs (ups by labs (L ∷ Ls)) in
      map-append (λ (x : Node S V). x.arcs) (table by.width here) _ ∙ ap₂ (λ xs ys. xs ++ ys) (map-table (λ (x : Node S V). x.arcs) by.width here) (written_from (labels_next by labs L (width Ls)) Ls)

  pub written : (Ls : Net) → Well Ls → arcs_read (take (by.round.n * by.width + 1) (X Ls)) ≡ laid_arcs by.width (arcs by.round.n by.width (X Ls))
  unfolding labelled_records
  written Ls p =
      rw (arcs-X Ls p, take_at (labelled_records by Ls) later (by.round.n * by.width + 1) (laid-long by w first Ls ∙ ap (λ (k : ℕ). k * by.width + 1) p.deep)) (written_from first Ls)

  relaid-X : (Ls Ms : Net) → Well Ls → records_with by (X Ls) Ms ≡ X Ms
  unfolding records_with
  relaid-X Ls Ms p = rw (later-stays by w later Ls p.deep)

  -- ---- the steps
  -- a filter, and then tidying
  filtered-X : (goes : ℕ → ℕ → ℕ → Option (Down S V) → Option Up → Bool) (Ls : Net) → Well Ls
      → records_with by (X Ls) (tidied_arcs (kept_arcs goes 0 (arcs by.round.n by.width (X Ls)) (labels by.round.n by.width (X Ls)))) ≡ X (tidied_arcs (kept by goes 0 first Ls))
  filtered-X goes Ls p = relaid-X Ls _ p ∙ rw (arcs-X Ls p, nodes-X Ls p) (ap (λ (z : Net). X (tidied_arcs z)) (kept-stood by w goes 0 first Ls (full Ls p)))

  pub proper-sweep : (Ls : Net) → Well Ls → Well (sweep by Ls)
  unfolding sweep
  proper-sweep Ls p = proper-kept by w (is_barred by.round by.rule) Ls _ p

  pub swept-X : (Ls : Net) → Well Ls → after_sweep by (X Ls) ≡ X (sweep by Ls)
  unfolding after_sweep sweep
  swept-X = filtered-X (is_barred by.round by.rule)

  cut-X : (c : V) (Ls : Net) → Well Ls → after_cut by c (X Ls) ≡ X (cut by c Ls)
  unfolding after_cut cut
  cut-X c = filtered-X (is_above_ceiling by.round by.tally c)

  backswept-X : (Ls : Net) → Well Ls → after_backsweep by (X Ls) ≡ X (backsweep by Ls)
  unfolding after_backsweep backsweep
  backswept-X = filtered-X (is_past_late by.round)

  -- layer d
  pub at-X : (d : ℕ) (Ls : Net) (p : Well Ls) → d < by.round.n → (downs_in (layer by.round.n by.width d (X Ls)) ≡ labels_at by d first Ls) × (arcs_in by.round.n (layer by.round.n by.width d (X Ls)) ≡ get_or Ls d []) × (count_of by d (X Ls) ≡ length (get_or Ls d []))
  at-X d Ls p h = rw (nodes-X Ls p) (stood-at by w d first Ls (full Ls p) (omega (arith, p.deep)))

  pub group-X : (i a d c : ℕ) (Ls : Net) → Well Ls → i ≡ suc d → a ≡ suc c → i < by.round.n → oneGroupIn by i a (X Ls) ≡ one_group by d c first Ls
  unfolding oneGroupIn
  group-X i a d c Ls p e f hi = let q = at-X d Ls p (omega arith) in let x : i - 1 ≡ d = omega arith in let y : a - 1 ≡ c = omega arith in rw (x, y, q.0, q.1)

  pub split-X : (i a d c : ℕ) (Ls : Net) → Well Ls → i ≡ suc d → a ≡ suc c → i < by.round.n → parted_records by i a (X Ls) ≡ X (part_at by d c first Ls)
  unfolding parted_records
  split-X i a d c Ls p e f hi = let x : i - 1 ≡ d = omega arith in let y : a - 1 ≡ c = omega arith in relaid-X Ls _ p ∙ rw (x, y, (at-X d Ls p (omega arith)).0, arcs-X Ls p)

  -- ---- the questions
  pub answer-X : (Ls : Net) → Well Ls → sweep_answer by (X Ls) ≡ count_arcs Ls - count_arcs (sweep by Ls)
  unfolding arcs_lost
  answer-X Ls p = rw (swept-X Ls p, arcs-X Ls p, arcs-X (sweep by Ls) (proper-sweep Ls p))

  pub bound-X : (Ls : Net) → Well Ls → bound by.round.n by.width (X Ls) ≡ boundOf by Ls
  unfolding bound boundOf
  bound-X Ls p = rw (nodes-X Ls p) (ap (λ (k : ℕ). value_in (get_or (stood by w first Ls) k [])) (sym p.deep) ∙ value-stood by w first Ls (full Ls p))

  agrees-X : (Ls : Net) → Well Ls → in_arcs_agree by (arcs by.round.n by.width (X Ls)) (labels by.round.n by.width (X Ls)) ≡ agrees by first Ls
  agrees-X Ls p = rw (arcs-X Ls p, nodes-X Ls p) (agrees-stood by w first Ls (full Ls p))

  pub settled-X : (Ls : Net) → Well Ls → is_settled by (X Ls) ≡ settled_of by Ls
  unfolding is_settled settled_of settles
  settled-X Ls p = grind (arith, agrees-X Ls p, arcs-X Ls p, nodes-X Ls p, kept-stood by w (is_barred by.round by.rule) 0 first Ls (full Ls p), kept-same {V = V} (is_barred by.round by.rule) 0 Ls)

  -- settled is yes exactly when the in-arcs agree and a sweep would answer 0
  pub settled-means-X : (Ls : Net) → Well Ls → is_settled by (X Ls) ≡ (in_arcs_agree by (arcs by.round.n by.width (X Ls)) (labels by.round.n by.width (X Ls)) && eqb (sweep_answer by (X Ls)) 0)
  settled-means-X Ls p = grind (arith, nat_tests, settled-X Ls p, settled-yes by Ls p.one_first p.tied, settled-if by Ls, agrees-X Ls p, answer-X Ls p, sweep-fewer by Ls)

  -- ---- records that are those of proper arcs, of which P holds
  pub record Reached (P : Net → Type 0) (xs : List (Node S V)) : Type 0 where
    pub net : Net
    pub well : Well net
    pub is : xs ≡ X net
    pub holds : P net

  pub arcs-of : (P : Net → Type 0) (xs : List (Node S V)) (r : Reached P xs) → arcs by.round.n by.width xs ≡ r.net
  arcs-of P xs r = ap (arcs by.round.n by.width) r.is ∙ arcs-X r.net r.well

  abbrev pub reached-sweep : (P : Net → Type 0) (xs : List (Node S V)) (r : Reached P xs) → P (sweep by r.net) → Reached P (after_sweep by xs)
  reached-sweep P xs r h = record { net = sweep by r.net; well = proper-sweep r.net r.well; is = ap (after_sweep by) r.is ∙ swept-X r.net r.well; holds = h }

  pub count-of : (P : Net → Type 0) (xs : List (Node S V)) (r : Reached P xs) (i d : ℕ) → i ≡ suc d → i < by.round.n → count_of by i xs ≡ length (get_or r.net (suc d) [])
  count-of P xs r i d e hi = ap (count_of by i) r.is ∙ (at-X i r.net r.well hi).2 ∙ ap (λ (z : ℕ). length (get_or r.net z [])) e

  pub group-of : (P : Net → Type 0) (xs : List (Node S V)) (r : Reached P xs) (i a d c : ℕ) → i ≡ suc d → a ≡ suc c → i < by.round.n → oneGroupIn by i a xs ≡ one_group by d c first r.net
  group-of P xs r i a d c e f hi = ap (oneGroupIn by i a) r.is ∙ group-X i a d c r.net r.well e f hi

  module _ (self : (s : S) → by.rule.same s s ≡ true) (P : Net → Type 0) where
    -- parting node c of layer d + 1
    abbrev pub reached-part : (i a d c : ℕ) (xs : List (Node S V)) → i ≡ suc d → a ≡ suc c → i < by.round.n → a ≤ count_of by i xs → oneGroupIn by i a xs ≡ false → count_of by i xs < by.width
        → (r : Reached P xs) → P (part_at by d c first r.net) → Reached P (parted_records by i a xs)
    reached-part i a d c xs e f hi inn apart room r h = record {
      net = part_at by d c first r.net;
      well = proper-parted-at by w self d c (labels_at by d first r.net) r.net (omega (arith, count-of P xs r i d e hi)) (omega (arith, count-of P xs r i d e hi)) (sym (group-of P xs r i a d c e f hi) ∙ apart) r.well;
      is = ap (parted_records by i a) r.is ∙ split-X i a d c r.net r.well e f hi;
      holds = h;
    }

  -- P is kept on arcs by what leaves proper arcs
  pub record KeptOnArcs (P : Net → Type 0) (Q : V → Type 0) : Type 0 where
    pub sweep : (Ls : Net) → Well Ls → P Ls → P (sweep by Ls)
    pub cut : (c : V) (Ls : Net) → Q c → Well Ls → P Ls → P (cut by c Ls)
    pub backsweep : (Ls : Net) → Well Ls → P Ls → P (backsweep by Ls)
    pub part : (d a : ℕ) (Ls : Net) → a < length (get_or Ls (suc d) []) → length (get_or Ls (suc d) []) < by.width → one_group by d a first Ls ≡ false → Well Ls → P Ls → P (part_at by d a first Ls)
    pub join : (d lo hi : ℕ) (Ls : Net) → lo < hi → hi < length (get_or Ls (suc d) []) → clash (node (get_or Ls (suc d) []) lo) (node (get_or Ls (suc d) []) hi) ≡ false → Well Ls → P Ls → P (joined_arcs d lo hi Ls)

  module _ (self : (s : S) → by.rule.same s s ≡ true) (P : Net → Type 0) (Q : V → Type 0) (k : KeptOnArcs P Q) where
    reached-cut : (c : V) (xs : List (Node S V)) → Q c → Reached P xs → Reached P (after_cut by c xs)
    reached-cut c xs u r = record {
      net = cut by c r.net;
      well = unfold cut in proper-kept by w (is_above_ceiling by.round by.tally c) r.net _ r.well;
      is = ap (after_cut by c) r.is ∙ cut-X c r.net r.well;
      holds = k.cut c r.net u r.well r.holds;
    }

    reached-backsweep : (xs : List (Node S V)) → Reached P xs → Reached P (after_backsweep by xs)
    reached-backsweep xs r = record {
      net = backsweep by r.net;
      well = unfold backsweep in proper-kept by w (is_past_late by.round) r.net _ r.well;
      is = ap (after_backsweep by) r.is ∙ backswept-X r.net r.well;
      holds = k.backsweep r.net r.well r.holds;
    }

    reached-join : (i lo hi : ℕ) (xs : List (Node S V)) → 1 ≤ i → i < by.round.n → lo < hi → hi < count_of by i xs
        → let D = arcs by.round.n by.width xs in clash (node (get_or D i []) lo) (node (get_or D i []) hi) ≡ false → Reached P xs → Reached P (records_with by xs (joined_arcs (i - 1) lo hi D))
    reached-join i lo hi xs one i_in up inn e r =
        let Ls = r.net in
        let j : suc (i - 1) ≡ i = omega arith in
        let d = arcs-of P xs r in
        let hi_in : hi < length (get_or Ls (suc (i - 1)) []) = omega (arith, count-of P xs r i (i - 1) (sym j) i_in) in
        let c : clash (node (get_or Ls (suc (i - 1)) []) lo) (node (get_or Ls (suc (i - 1)) []) hi) ≡ false = rw (j, ← d) e in
        record {
          net = joined_arcs (i - 1) lo hi Ls;
          well = proper-join by w (i - 1) lo hi Ls up hi_in c r.well;
          is = ap₂ (λ (ys : List (Node S V)) (D : Net). records_with by ys (joined_arcs (i - 1) lo hi D)) r.is d ∙ relaid-X Ls _ r.well;
          holds = k.join (i - 1) lo hi Ls up hi_in c r.well r.holds;
        }

    steps : KeptBySteps by (Reached P) Q
    steps = record {
      sweep = λ xs r. reached-sweep P xs r (k.sweep r.net r.well r.holds);
      cut = reached-cut;
      backsweep = reached-backsweep;
      part = λ i a xs lo hi one inn e room r.
          let m = count-of P xs r i (i - 1) (omega arith) hi in
          reached-part self P i a (i - 1) (a - 1) xs (omega arith) (omega arith) hi inn e room r
          (k.part (i - 1) (a - 1) r.net (omega arith) (omega arith) (sym (group-of P xs r i a (i - 1) (a - 1) (omega arith) (omega arith) hi) ∙ e) r.well r.holds);
      join = reached-join;
    }

    -- whatever is called
    pub reached : (cs : List (Call V)) (xs : List (Node S V)) → EachCut Q cs → Reached P xs → Reached P (after_calls by cs xs)
    reached = kept-calls by (Reached P) Q steps

    -- and after each layer that refine parts
    pub layers-refined : (m i : ℕ) (xs : List (Node S V)) → 1 ≤ i → i + m ≤ by.round.n → Reached P xs → Reached P (refinement_from by m i xs).1
    layers-refined = kept-layers by (Reached P) Q steps

  -- of which nothing else is said
  pub plain : KeptOnArcs (λ Ls. Unit {0}) (λ c. Unit {0})
  plain = record { sweep = λ Ls p h. tt; cut = λ c Ls u p h. tt; backsweep = λ Ls p h. tt; part = λ d a Ls x y z p h. tt; join = λ d lo hi Ls x y z p h. tt }

-- opening, and whatever is called then
module _ {S V : Type 0} (by : Setting S V) (w : 1 ≤ by.width) (lent : List (Node S V)) where
  abbrev pub after_end : List (Node S V)
  after_end = drop (by.round.n * by.width + 1) lent

  pub opened-reached : (P : Net → Type 0) → P (opening_arcs by.round.n) → Reached by w after_end P (after_open by lent)
  unfolding after_open records_with
  opened-reached P h = record { net = opening_arcs by.round.n; well = proper-opened by w; is = refl; holds = h }

  pub run-reached : (self : (s : S) → by.rule.same s s ≡ true) (cs : List (Call V)) → Reached by w after_end (λ Ls. Unit {0}) (after_calls by cs (after_open by lent))
  run-reached self cs = reached by w after_end self (λ Ls. Unit {0}) (λ c. Unit {0}) (plain by w after_end) cs (after_open by lent) (any-cut cs) (opened-reached (λ Ls. Unit {0}) tt)
