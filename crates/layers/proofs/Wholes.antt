-- Refine that answers whole settles, and its last sweep leaves nothing to sweep out: a key for each node of the first layers, such that every arc leads from key to key.
use Rattle.layers.proofs.Walk.{same-gather, Agree, agree-self, agree-back, agree-merge, agree-arrive, by-pairs, agree-yes, pairs}
use Rattle.layers.proofs.Proper.{more-back}
use Rattle.std.proofs.lemmas.Bool.Decides.{nat_tests}
use Rattle.std.proofs.Common.{◌≡◌, ℕ, zero, suc, ◌≤◌, Bool, true, false, cond, eqb, List, [], ◌∷◌, ◌++◌, length, get_or, Some, None, Option, sym, refl, ap, ◌∙◌, arith, ◌+◌, ◌-◌, ◌<◌, leb, ltb, subst, inl, inr, not-suc-le-zero}
use Rattle.std.proofs.lemmas.Bool.{false≢true, true≢false, leb-false, ltb-true, ltb-false, eqb-true, eqb-false, cases_eq, cond_both}
use Rattle.rules.specs.Rules.{RuleLaws, RuleSense}
use Rattle.layers.specs.Net.{Layer, Net, node, target, width, redirect, count_arcs}
use Rattle.layers.specs.Flow.{arrivals_at}
use Rattle.layers.specs.Tidy.{Mark, marks_next, marks_up, flags, rank, compress, renumber, tidy, tidied_arcs}
use Rattle.layers.specs.Lawful.{IsTied, IsLawful, IsRoomy}
use Rattle.layers.specs.Labels.{ups, first_label, first_labels, arrival_over, merge, labels_next, is_barred, agree, all_agree, first_arrival}
use Rattle.layers.proofs.Flows.{first-only, Among, has-arc, ins-from, next-some, gather-all, compress-at, ins-in, next-at}
use Rattle.layers.proofs.Ways.{length-snoc}
use Rattle.layers.proofs.Model.{sweeps, sweep, part_at, agrees, moved, one_group, or_blank}
use Rattle.layers.proofs.Tied.{redirect-back, compress-back, stayed-arc, kept-back, redirect-length}
use Rattle.layers.specs.Calls.{places_agree, kept_arcs, parted_arcs, in_arcs_agree, arcs, after_sweep, sweep_answer, count_of, one_group as oneGroupIn, parted_records, parts_of_layer, refinement_from, after_sweeps, refinement, after_open, after_calls, is_settled}
use Rattle.layers.specs.Settings.{Setting, setting}
use Rattle.layers.specs.declared.node.Down.{Down}
use Rattle.tallies.specs.Tallies.{TallySense}
use Rattle.layers.specs.declared.node.Node.{Node}
use Rattle.layers.specs.declared.refined.Refined.{Refined}
use Rattle.layers.specs.declared.refined.Refined.TheVariants.{Whole, Full}
use Rattle.layers.specs.SweepLaws.{RefineSweepsOutAlways}
use Rattle.layers.specs.Claim.{WholeSettlesAlways}
use Rattle.layers.proofs.Counts.{sweep-fewer, sweep-same, settled-if}
use Rattle.layers.proofs.Bridge.{labels_full}
use Rattle.layers.proofs.Standing.{answer-X, settled-X, Reached, arcs-of, reached-sweep, count-of, group-of, reached-part, layers-refined, plain, after_end, run-reached}

abbrev pub Sub : (ℕ → ℕ) → Net → Net → Type 0
Sub f [] Ls = Unit {0}
Sub f (M ∷ Ms) [] = ⊥
Sub f (M ∷ Ms) (L ∷ Ls) = (g : ℕ → ℕ) × ((a j b : ℕ) → target (node M a) j ≡ suc b → target (node L (f a)) j ≡ suc (g b)) × Sub g Ms Ls

sub_self : (Ls : Net) → Sub (λ a. a) Ls Ls
sub_self [] = tt
sub_self (L ∷ Ls) = (λ b. b, λ a j b e. e, sub_self Ls)

-- the place that tidying moved to place c
unrank : List Bool → ℕ → ℕ
unrank [] c = 0
unrank (true ∷ fs) zero = 0
unrank (true ∷ fs) (suc c) = suc (unrank fs c)
unrank (false ∷ fs) c = suc (unrank fs c)

unrank-rank : (fs : List Bool) (b : ℕ) → get_or fs b false ≡ true → unrank fs (rank fs b) ≡ b
unfolding rank unrank
unrank-rank [] b e = absurd (false≢true e)
unrank-rank (f ∷ fs) b e = grind (arith, e, unrank-rank fs)

-- tidying
was-arc : (fs : List Bool) (L : Layer) (a j c : ℕ) → target (node (redirect (λ a j b. renumber fs b) L) a) j ≡ suc c → target (node L a) j ≡ suc (unrank fs c)
was-arc fs L a j c e =
    let s = stayed-arc fs L a j c e in
    s.1 ∙ ap suc (sym (unrank-rank fs s.0 s.2) ∙ ap (unrank fs) s.3)

was-node : (gs : List Bool) (X : Layer) (c j b : ℕ) → target (node (compress gs X) c) j ≡ suc b → target (node X (unrank gs c)) j ≡ suc b
was-node gs X c j b e =
    let q = compress-back gs X c (has-arc (compress gs X) c j b e) in
    let z : unrank gs c ≡ q.0 = ap (unrank gs) (sym q.2) ∙ unrank-rank gs q.0 q.1 in
    rw (z, ← (compress-at gs X q.0 q.1), q.2) e

sub-tidy : (fr : List (Option Mark)) (Ls : Net) → Sub (unrank (flags fr (marks_up Ls))) (tidy fr Ls) Ls
unfolding tidy
sub-tidy fr [] = tt
sub-tidy fr (L ∷ Ls) =
    let fs = flags (marks_next fr L (width Ls)) (marks_up Ls) in
    let gs = flags fr (marks_up (L ∷ Ls)) in
    (unrank fs, (λ a j b e. was-arc fs L (unrank gs a) j b (was-node gs (redirect (λ a j b. renumber fs b) L) a j b e)), sub-tidy (marks_next fr L (width Ls)) Ls)

sub-tidied : (Ls : Net) → Sub (λ a. a) (tidied_arcs Ls) Ls
unfolding tidied_arcs
sub-tidied [] = tt
sub-tidied (L ∷ Ls) =
    let fr = marks_next (Some tt ∷ []) L (width Ls) in
    let fs = flags fr (marks_up Ls) in
    (unrank fs, (λ a j b e. was-arc fs L a j b e), sub-tidy fr Ls)

tied-tail : (L : Layer) (Ls : Net) → IsTied (L ∷ Ls) → IsTied Ls
tied-tail L [] t = tt
tied-tail L (M ∷ Ls) t = t.3

module _ {S V : Type 0} (by : Setting S V) where
  -- sweeping, before tidying
  sub-sweeps : (i : ℕ) (labs : List (Option (Down S V))) (Ls : Net) → Sub (λ a. a) (sweeps by i labs Ls) Ls
  unfolding kept_arcs
  sub-sweeps i labs [] = tt
  sub-sweeps i labs (L ∷ Ls) = (
    λ b. b,
    kept-back (λ a j b. is_barred by.round by.rule i (suc (length Ls)) j (get_or labs a None) (get_or (ups by (labels_next by labs L (width Ls)) Ls) b None)) L,
    sub-sweeps (suc i) (labels_next by labs L (width Ls)) Ls,
  )

  -- parting
  sub_part : (d a : ℕ) (labs : List (Option (Down S V))) (Ls : Net) → IsTied Ls → Sub (λ a. a) (part_at by d a labs Ls) Ls
  unfolding parted_arcs
  sub_part zero a labs (L ∷ M ∷ Ls) t = (λ c. cond (eqb c (length M)) a c, before, (λ b. b, behind, sub_self Ls))
    where
      -- the new last node was the one at place a
      before : (u j c : ℕ) → target (node (redirect (moved by a labs L (length M)) L) u) j ≡ suc c → target (node L u) j ≡ suc (cond (eqb c (length M)) a c)
      before u j c e = let s = redirect-back (moved by a labs L (length M)) L u j c e in let k = t.0 u j s.0 s.1 in let x = s.1 in let y = s.2 in grind (arith, nat_tests, x, y, k)

      behind : (c j b : ℕ) → target (node (M ++ (node M a ∷ [])) c) j ≡ suc b → target (node M (cond (eqb c (length M)) a c)) j ≡ suc b
      behind c j b e =
          let k = has-arc (M ++ (node M a ∷ [])) c j b e in
          let q = more-back M (node M a) c (omega (arith, length-snoc M (node M a))) in
          grind (arith, nat_tests, e, q)
  sub_part (suc d) a labs (L ∷ Ls) t = (λ b. b, λ x j b e. e, sub_part d a (labels_next by labs L (width Ls)) Ls (tied-tail L Ls t))
  sub_part d a labs Ls t = sub_self Ls

module _ {S V : Type 0} {Keeps : List ℕ → Type 0} {Stands : S → List ℕ → Type 0} (by : Setting S V) (ruled : RuleLaws by.round.n by.rule Keeps Stands) where
  -- ---- keys: K of the nodes of the first layer, and of i layers more; the end has none
  abbrev pub Keyed : ℕ → (ℕ → Down S V) → Net → Type 0
  Keyed zero K Ls = Unit {0}
  Keyed (suc i) K [] = Unit {0}
  Keyed (suc i) K (L ∷ []) = Unit {0}
  Keyed (suc i) K (L ∷ M ∷ Ls) = (K' : ℕ → Down S V) × ((a j b : ℕ) → target (node L a) j ≡ suc b → Agree by ruled (arrival_over by (K a) j) (K' b)) × Keyed i K' (M ∷ Ls)

  keyed-sub : (i : ℕ) (K : ℕ → Down S V) (f : ℕ → ℕ) (Ms Ls : Net) → Sub f Ms Ls → Keyed i K Ls → Keyed i (λ a. K (f a)) Ms
  keyed-sub (suc i) K f (M ∷ N ∷ Ms) [] s k = absurd s
  keyed-sub (suc i) K f (M ∷ N ∷ Ms) (L ∷ []) s k = absurd s.2
  keyed-sub (suc i) K f (M ∷ N ∷ Ms) (L ∷ P ∷ Ls) s k =
      ((λ b. k.0 (s.0 b)), (λ a j b e. k.1 (f a) j (s.0 b) (s.1 a j b e)), keyed-sub i k.0 s.0 (N ∷ Ms) (P ∷ Ls) s.2 k.2)
  keyed-sub i K f Ms Ls s k = tt

  -- from the first node on
  abbrev pub KeyedTo : ℕ → Net → Type 0
  KeyedTo i Ls = Keyed i (λ a. first_label by.rule by.tally) Ls

  pub keyed-sweep : (i : ℕ) (Ls : Net) → KeyedTo i Ls → KeyedTo i (sweep by Ls)
  unfolding sweep
  keyed-sweep i Ls k =
      let Ms = sweeps by 0 (first_labels by.rule by.tally) Ls in
      keyed-sub i (λ a. first_label by.rule by.tally) (λ a. a) (tidied_arcs Ms) Ms (sub-tidied Ms) (keyed-sub i (λ a. first_label by.rule by.tally) (λ a. a) Ms Ls (sub-sweeps by 0 (first_labels by.rule by.tally) Ls) k)

  pub keyed-part : (i d a : ℕ) (Ls : Net) → IsTied Ls → KeyedTo i Ls → KeyedTo i (part_at by d a (first_labels by.rule by.tally) Ls)
  keyed-part i d a Ls t k = keyed-sub i (λ a. first_label by.rule by.tally) (λ a. a) (part_at by d a (first_labels by.rule by.tally) Ls) Ls (sub_part by d a (first_labels by.rule by.tally) Ls t) k

  -- ---- the labels worked out agree with the keys
  abbrev pub Fit : List (Option (Down S V)) → (ℕ → Down S V) → Type 0
  Fit labs K = (a : ℕ) (l : Down S V) → get_or labs a None ≡ Some l → Agree by ruled (K a) l

  pub fit-first : Fit (first_labels by.rule by.tally) (λ a. first_label by.rule by.tally)
  fit-first = first-only (first_label by.rule by.tally) (λ a l. Agree by ruled (first_label by.rule by.tally) l) (agree-self by ruled (first_label by.rule by.tally))

  module _ (labs : List (Option (Down S V))) (K K' : ℕ → Down S V) (fit : Fit labs K) (L : Layer) (on : (a j b : ℕ) → target (node L a) j ≡ suc b → Agree by ruled (arrival_over by (K a) j) (K' b)) where
    -- so does each arrival
    arrival-fits : (b : ℕ) (x : Down S V) → Among x (arrivals_at (arrival_over by) b labs L) → Agree by ruled (K' b) x
    arrival-fits b x i =
        let f = ins-from (arrival_over by) b labs L x i in
        let p = agree-arrive by ruled (K f.source) f.label f.door (fit f.source f.label f.labelled) in
        rw f.is (agree-back by ruled (arrival_over by (K f.source) f.door) (K' b) (arrival_over by f.label f.door) (on f.source f.door b f.arc) p)

    pub fit_next : (count : ℕ) → Fit (labels_next by labs L count) K'
    unfolding labels_next
    fit_next count b m e = gather-all (merge by.rule by.tally) (Agree by ruled (K' b)) (agree-merge by ruled (K' b)) _ m (arrival-fits b) (next-some (arrival_over by) (merge by.rule by.tally) labs L count b m e)

    agreed-keyed : (k : ℕ) → places_agree by labs L k ≡ true
    unfolding places_agree
    agreed-keyed zero = refl
    agreed-keyed (suc b) = rw (by-pairs by ruled (arrivals_at (arrival_over by) b labs L) (λ y z i k. agree-back by ruled (K' b) y z (arrival-fits b y i) (arrival-fits b z k))) (agreed-keyed b)

  agrees-keyed : (i : ℕ) (K : ℕ → Down S V) (labs : List (Option (Down S V))) (Ls : Net) → length Ls ≤ suc i → Fit labs K → Keyed i K Ls → agrees by labs Ls ≡ true
  unfolding in_arcs_agree
  agrees-keyed zero K labs (L ∷ M ∷ Ls) h fit k = absurd (omega arith)
  agrees-keyed (suc i) K labs (L ∷ M ∷ Ls) h fit k =
      rw (agreed-keyed labs K k.0 fit L k.1 (length M)) (agrees-keyed i k.0 (labels_next by labs L (length M)) (M ∷ Ls) (omega arith) (fit_next labs K k.0 fit L k.1 (length M)) k.2)
  agrees-keyed i K labs Ls h fit k = refl

  pub keyed-agrees : (i : ℕ) (Ls : Net) → length Ls ≤ suc i → KeyedTo i Ls → agrees by (first_labels by.rule by.tally) Ls ≡ true
  keyed-agrees i Ls h k = agrees-keyed i (λ a. first_label by.rule by.tally) (first_labels by.rule by.tally) Ls h fit-first k

roomy-at : (W i : ℕ) (Ls : Net) → IsRoomy W Ls → length (get_or Ls i []) ≤ W
roomy-at W i [] h = omega arith
roomy-at W i (L ∷ Ls) h = grind (arith, h, roomy-at W (i - 1) Ls)

-- sweeps until one answers 0 leave what a further sweep leaves as it is: each before it takes out an arc, so there are enough of them
swept-quiet : {S V : Type 0} (by : Setting S V) (w : 1 ≤ by.width) (later : List (Node S V)) (P : Net → Type 0) → ((Ls : Net) → IsLawful by.round.n by.width Ls → P Ls → P (sweep by Ls))
    → (k : ℕ) (xs : List (Node S V)) (r : Reached by w later P xs) → count_arcs r.net < k → Reached by w later (λ Ls. P Ls × (sweep by Ls ≡ Ls)) (after_sweeps by k xs)
unfolding after_sweeps
swept-quiet by w later P keep zero xs r h = absurd (not-suc-le-zero h)
swept-quiet by w later P keep (suc k) xs r h =
    let q = reached-sweep by w later P xs r (keep r.net r.well r.holds) in
    let m = ap (sweep_answer by) r.is ∙ answer-X by w later r.net r.well in
    let f = sweep-fewer by r.net in
    cond_both (eqb (sweep_answer by xs) 0) (after_sweep by xs) (after_sweeps by k (after_sweep by xs)) (Reached by w later (λ Ls. P Ls × (sweep by Ls ≡ Ls)))
    (λ e. record { net = q.net; well = q.well; is = q.is; holds = (q.holds, ap (sweep by) (sweep-same by r.net r.well.one_first r.well.tied (omega (arith, eqb-true (sweep_answer by xs) 0 e)))) })
    (λ e. swept-quiet by w later P keep k (after_sweep by xs) q (omega (arith, eqb-false (sweep_answer by xs) 0 e)))

module _ {S V : Type 0} {Keeps : List ℕ → Type 0} {Stands : S → List ℕ → Type 0} (by : Setting S V) (ruled : RuleLaws by.round.n by.rule Keeps Stands) where
  part-width : (d a : ℕ) (labs : List (Option (Down S V))) (Ls : Net) → width (part_at by d a labs Ls) ≡ width Ls
  unfolding parted_arcs
  part-width zero a labs (L ∷ M ∷ Ls) = simp redirect-length
  part-width (suc d) a labs (L ∷ Ls) = refl
  part-width d a labs Ls = refl

  -- ---- parting a node: its own in-arcs then agree, and those of the nodes before it still do
  module _ (a : ℕ) (labs : List (Option (Down S V))) (L M : Layer) (inn : a < length M) where
    abbrev arrivals : ℕ → Layer → List (Down S V)
    arrivals b N = arrivals_at (arrival_over by) b labs N

    abbrev h : Option (Down S V)
    h = first_arrival (arrivals a L)

    abbrev f : ℕ → ℕ → ℕ → ℕ
    f = moved by a labs L (length M)

    -- an arrival at an old node was there before, and did not leave
    was : (b : ℕ) (y : Down S V) → b < length M → Among y (arrivals b (redirect f L)) → Among y (arrivals b L) × (b ≡ a → (x : Down S V) → h ≡ Some x → agree by.rule x y ≡ true)
    was b y k i =
        let w = ins-from (arrival_over by) b labs (redirect f L) y i in
        let s = redirect-back f L w.source w.door b w.arc in
        let t = s.2 in
        let z : s.0 ≡ b = grind (arith, nat_tests, t, k) in
        let m = w.labelled in
        let y = w.is in
        (rw y (ins-in (arrival_over by) (merge by.rule by.tally) b labs L w.source w.door w.label (s.1 ∙ ap suc z) m), λ n x e. grind (arith, nat_tests, t, z, n, e, m, y))

    head_of : (l : List (Down S V)) (y : Down S V) → Among y l → (x : Down S V) × (first_arrival l ≡ Some x)
    head_of [] y i = absurd i
    head_of (x ∷ l) y i = (x, refl)

    group-stays : ((b : ℕ) → b < a → all_agree by.rule (arrivals b L) ≡ true) → (b : ℕ) → b < suc a → all_agree by.rule (arrivals b (redirect f L)) ≡ true
    group-stays g b k = by-pairs by ruled (arrivals b (redirect f L)) (λ y z i m.
        let p = was b y (omega arith) i in let q = was b z (omega arith) m in elim (cases_eq b a) [
          | inl e ↦ (let x = head_of (arrivals a L) y (rw (← e) p.0) in agree-back by ruled x.0 y z (agree-yes by ruled x.0 y (p.1 e x.0 x.1)) (agree-yes by ruled x.0 z (q.1 e x.0 x.1)))
          | inr n ↦ pairs by ruled (arrivals b L) (g b (omega arith)) y z p.0 q.0
        ])

  part-groups : (d a : ℕ) (labs : List (Option (Down S V))) (Ls : Net) → a < length (get_or Ls (suc d) []) → ((b : ℕ) → b < a → one_group by d b labs Ls ≡ true)
      → (b : ℕ) → b < suc a → one_group by d b labs (part_at by d a labs Ls) ≡ true
  unfolding parted_arcs
  part-groups zero a labs (L ∷ M ∷ Ls) k g b h = group-stays a labs L M k g b h
  part-groups (suc d) a labs (L ∷ Ls) k g b h =
      let labs' = labels_next by labs L (width Ls) in
      ap (λ (m : ℕ). one_group by d b (labels_next by labs L m) (part_at by d a labs' Ls)) (part-width d a labs' Ls) ∙ part-groups d a labs' Ls k g b h
  part-groups d a labs Ls k g b h = absurd (omega arith)

  module _ (w : 1 ≤ by.width) where
    -- ---- one more layer whose in-arcs agree has keys: its labels
    keyed-more : (d : ℕ) (K : ℕ → Down S V) (labs : List (Option (Down S V))) (Ls : Net) → IsTied Ls → Fit by ruled labs K
        → ((a : ℕ) → a < width Ls → (l : Down S V) × (get_or labs a None ≡ Some l)) → Keyed by ruled d K Ls
        → ((b : ℕ) → b < length (get_or Ls (suc d) []) → one_group by d b labs Ls ≡ true) → Keyed by ruled (suc d) K Ls
    unfolding labels_next
    keyed-more zero K labs (L ∷ M ∷ Ls) t fit full k g = (K', on, tt)
      where
        K' : ℕ → Down S V
        K' b = or_blank by.rule by.tally (get_or (labels_next by labs L (length M)) b None)

        on : (a j b : ℕ) → target (node L a) j ≡ suc b → Agree by ruled (arrival_over by (K a) j) (K' b)
        on a j b e =
            let l = full a (has-arc L a j b e) in
            let h = t.0 a j b e in
            let n = next-at {A = Down S V} (merge by.rule by.tally) (λ x. Unit {0}) (λ x y p. tt) (λ x y p. tt) (arrival_over by) labs L (length M) a j b l.0 e l.1 h tt in
            let p = agree-arrive by ruled (K a) l.0 j (fit a l.0 l.1) in
            let q = same-gather by ruled (arrivals_at (arrival_over by) b labs L) n.0 (arrival_over by l.0 j) (g b h) (next-some (arrival_over by) (merge by.rule by.tally) labs L (length M) b n.0 n.1)
            (ins-in (arrival_over by) (merge by.rule by.tally) b labs L a j l.0 e l.1) in
            let z = n.1 in
            grind (arith, p, q, z)
    keyed-more (suc d) K labs (L ∷ M ∷ Ls) t fit full k g =
        (k.0, k.1, keyed-more d k.0 (labels_next by labs L (length M)) (M ∷ Ls) t.3 (fit_next by ruled labs K k.0 fit L k.1 (length M)) (labels_full by w labs L M Ls t full) k.2 g)
    keyed-more d K labs Ls t fit full k g = tt

    -- ---- refine
    module _ (later : List (Node S V)) where
      -- records of arcs that have keys up to layer d
      abbrev R : ℕ → List (Node S V) → Type 0
      R d = Reached by w later (KeyedTo by ruled d)

      -- all nodes of layer d + 1 looked at
      done : (d : ℕ) (xs : List (Node S V)) (r : R d xs) → ((b : ℕ) → b < length (get_or r.net (suc d) []) → one_group by d b (first_labels by.rule by.tally) r.net ≡ true) → R (suc d) xs
      done d xs r g = record {
        net = r.net;
        well = r.well;
        is = r.is;
        holds = keyed-more d (λ a. first_label by.rule by.tally) (first_labels by.rule by.tally) r.net r.well.tied (fit-first by ruled) (λ a h. let z : a ≡ 0 = omega (arith, r.well.one_first) in (first_label by.rule by.tally, rw z)) r.holds g;
      }

      -- a layer is parted without being found full: k nodes more, from the one at place a on
      parted-keyed : (k d a : ℕ) (xs : List (Node S V)) → by.width ≤ a + k → suc d < by.round.n → (r : R d xs) → ((b : ℕ) → b < a → one_group by d b (first_labels by.rule by.tally) r.net ≡ true)
          → (parts_of_layer by k (suc d) (suc a) xs).0 ≡ false → R (suc d) (parts_of_layer by k (suc d) (suc a) xs).1
      unfolding parts_of_layer
      parted-keyed zero d a xs u hi r g = λ e. done d xs r (λ b h. g b (omega (arith, roomy-at by.width (suc d) r.net r.well.roomy)))
      parted-keyed (suc k) d a xs u hi r g =
          let m = count-of by w later (KeyedTo by ruled d) xs r (suc d) d refl hi in
          let same = group-of by w later (KeyedTo by ruled d) xs r (suc d) (suc a) d a refl refl hi in
          cond_both (ltb (count_of by (suc d) xs) (suc a)) (false, xs) _ Done (λ x e. done d xs r (λ b h. g b (omega (arith, ltb-true (count_of by (suc d) xs) (suc a) x)))) (λ x.
          cond_both (oneGroupIn by (suc d) (suc a) xs) _ _ Done (λ y. parted-keyed k d (suc a) xs (omega arith) hi r (λ b h. elim (cases_eq b a) [ inl n ↦ rw n (sym same ∙ y) | inr n ↦ g b (omega arith) ])) (λ y.
          cond_both (leb by.width (count_of by (suc d) xs)) (true, xs) _ Done (λ z e. absurd (true≢false e)) (λ z.
          let inn = ltb-false (count_of by (suc d) xs) (suc a) x in
          let q = reached-part by w later ruled.same_self (KeyedTo by ruled d) (suc d) (suc a) d a xs refl refl hi inn y (leb-false by.width (count_of by (suc d) xs) z) r (keyed-part by ruled d d a r.net r.well.tied r.holds) in
          parted-keyed k d (suc a) (parted_records by (suc d) (suc a) xs) (omega arith) hi q (part-groups d a (first_labels by.rule by.tally) r.net (omega arith) g))))
        where
          Done : Bool × List (Node S V) → Type 0
          Done z = z.0 ≡ false → R (suc d) z.1

      -- k layers, from layer d + 1 on
      refines-keyed : (k d : ℕ) (xs : List (Node S V)) → d + k < by.round.n → R d xs → (refinement_from by k (suc d) xs).0 ≡ Whole → R (d + k) (refinement_from by k (suc d) xs).1
      unfolding refinement_from
      refines-keyed zero d xs hi r = λ e. subst (λ (m : ℕ). R m xs) (omega arith) r
      refines-keyed (suc k) d xs hi r =
          let t = parts_of_layer by by.width (suc d) 1 (after_sweep by xs) in
          cond_both t.0 (Full (suc d), t.1) (refinement_from by k (suc (suc d)) t.1) Done (λ x e. cc) (λ x e.
          subst (λ (m : ℕ). R m (refinement_from by k (suc (suc d)) t.1).1) (omega arith)
          (refines-keyed k (suc d) t.1 (omega arith) (parted-keyed by.width d 0 (after_sweep by xs) (omega arith) (omega arith) (reached-sweep by w later (KeyedTo by ruled d) xs r (keyed-sweep by ruled d r.net r.holds)) (λ b h. absurd (not-suc-le-zero h)) x) e))
        where
          Done : Refined × List (Node S V) → Type 0
          Done z = z.0 ≡ Whole → R (d + suc k) z.1

      refine-settles : (xs : List (Node S V)) → Reached by w later (λ Ls. Unit {0}) xs → (refinement by xs).0 ≡ Whole → is_settled by (refinement by xs).1 ≡ true
      unfolding refinement
      refine-settles xs r e =
          let n = by.round.n - 1 in
          let ys = (refinement_from by n 1 xs).1 in
          let q : R n ys = subst (λ (m : ℕ). R m ys) (omega arith) (refines-keyed n 0 xs (omega (arith, by.round.one)) (record { net = r.net; well = r.well; is = r.is; holds = tt }) e) in
          let z = swept-quiet by w later (KeyedTo by ruled n) (λ Ls p k. keyed-sweep by ruled n Ls k) (suc (count_arcs (arcs by.round.n by.width ys))) ys q (rw (arcs-of by w later (KeyedTo by ruled n) ys q) (omega arith)) in
          ap (is_settled by) z.is ∙ settled-X by w later z.net z.well ∙ settled-if by z.net (keyed-agrees by ruled n z.net (omega (arith, z.well.deep)) z.holds.0) (ap count_arcs z.holds.1)

-- ---- on records
pub whole-settles : {S V : Type 0} {Keeps : List ℕ → Type 0} {Stands : S → List ℕ → Type 0} (A : ℕ → Type 0) (rule : RuleSense S) (tally : TallySense V) → ((n : ℕ) → A n → RuleLaws n rule Keeps Stands) → WholeSettlesAlways A rule tally
whole-settles A rule tally ruled r e W a b lent cs =
    let by = setting r rule tally W in
    refine-settles by (ruled r.n e) a (after_end by a lent) (after_calls by cs (after_open by lent)) (run-reached by a lent (ruled r.n e).same_self cs)

pub refine-sweeps-out : {S V : Type 0} {Keeps : List ℕ → Type 0} {Stands : S → List ℕ → Type 0} (A : ℕ → Type 0) (rule : RuleSense S) (tally : TallySense V) → ((n : ℕ) → A n → RuleLaws n rule Keeps Stands) → RefineSweepsOutAlways A rule tally
unfolding refinement
refine-sweeps-out A rule tally ruled r e W a b lent cs =
    let by = setting r rule tally W in
    let P : Net → Type 0 = λ Ls. Unit {0} in
    let later = after_end by a lent in
    let xs = after_calls by cs (after_open by lent) in
    let ys = (refinement_from by (r.n - 1) 1 xs).1 in
    let q = layers-refined by a later (ruled r.n e).same_self P (λ c. Unit {0}) (plain by a later) (r.n - 1) 1 xs (omega arith) (omega (arith, r.one)) (run-reached by a lent (ruled r.n e).same_self cs) in
    let z = swept-quiet by a later P (λ Ls p k. tt) (suc (count_arcs (arcs r.n W ys))) ys q (rw (arcs-of by a later P ys q) (omega arith)) in
    ap (sweep_answer by) z.is ∙ answer-X by a later z.net z.well ∙ omega (arith, ap count_arcs z.holds.1)
