-- A sweep adds no arc, and where it takes out none, none is one that it takes out.
use Rattle.layers.proofs.Walk.{every_arc-at}
use Rattle.layers.proofs.Tidying.{tidied-same}
use Rattle.std.proofs.Common.{◌≡◌, ℕ, suc, ◌≤◌, Bool, true, cond, not, eqb, List, [], ◌∷◌, length, get_or, Some, None, Option, refl, ap, arith}
use Rattle.std.proofs.lemmas.Bool.Decides.{nat_tests}
use Rattle.std.proofs.lemmas.Bool.{not-true}
use Rattle.layers.specs.Net.{Outs, Layer, Net, width, each_door, each_node, redirect, count_doors, count_layer, count_arcs, every_door, every_arc}
use Rattle.layers.specs.Tidy.{Mark, marks_next, marks_up, flags, compress, renumber, tidy, tidied_arcs}
use Rattle.layers.specs.Lawful.{IsTied}
use Rattle.layers.specs.Labels.{first_labels, is_barred}
use Rattle.layers.proofs.Model.{labels_from, sweep, settles, settled, agrees}
use Rattle.layers.proofs.Tied.{redirect-same}
use Rattle.layers.specs.Settings.{Setting}
use Rattle.layers.specs.declared.node.Down.{Down}
use Rattle.layers.specs.Calls.{LayerLabels, kept_arcs, keeps_all_arcs}
use Rattle.layers.specs.declared.node.Up.{Up}

doors-fewer : (f : ℕ → ℕ → ℕ) (j : ℕ) (ts : Outs) → count_doors (each_door f j ts) ≤ count_doors ts
unfolding count_doors each_door
doors-fewer f j [] = omega arith
doors-fewer f j (t ∷ ts) = grind (arith, doors-fewer f (suc j) ts)

pub nodes-fewer : (f : ℕ → ℕ → ℕ → ℕ) (a : ℕ) (L : Layer) → count_layer (each_node f a L) ≤ count_layer L
unfolding count_layer each_node
nodes-fewer f a [] = omega arith
nodes-fewer f a (nd ∷ L) = let h = nodes-fewer f (suc a) L in omega (arith, doors-fewer (f a) 1 nd)

pub redirect-fewer : (f : ℕ → ℕ → ℕ → ℕ) (L : Layer) → count_layer (redirect f L) ≤ count_layer L
unfolding redirect
redirect-fewer f L = nodes-fewer f 0 L

compress-fewer : (fs : List Bool) (L : Layer) → count_layer (compress fs L) ≤ count_layer L
unfolding count_layer compress
compress-fewer (f ∷ fs) (x ∷ L) = grind (arith, compress-fewer fs L)
compress-fewer fs L = omega arith

tidy-fewer : (fr : List (Option Mark)) (Ls : Net) → count_arcs (tidy fr Ls) ≤ count_arcs Ls
unfolding count_arcs tidy
tidy-fewer fr [] = omega arith
tidy-fewer fr (L ∷ Ls) =
    let f : ℕ → ℕ → ℕ → ℕ = λ a j b. renumber (flags (marks_next fr L (width Ls)) (marks_up Ls)) b in
    omega (arith, compress-fewer (flags fr (marks_up (L ∷ Ls))) (redirect f L), redirect-fewer f L, tidy-fewer (marks_next fr L (width Ls)) Ls)

tidied-fewer : (Ls : Net) → count_arcs (tidied_arcs Ls) ≤ count_arcs Ls
unfolding count_arcs tidied_arcs
tidied-fewer [] = omega arith
tidied-fewer (L ∷ Ls) =
    let f : ℕ → ℕ → ℕ → ℕ = λ a j b. renumber (flags (marks_next (Some tt ∷ []) L (width Ls)) (marks_up Ls)) b in
    omega (arith, redirect-fewer f L, tidy-fewer (marks_next (Some tt ∷ []) L (width Ls)) Ls)

-- where a sweep takes out nothing, no arc is one that it takes out
doors-quiet : (t : ℕ → ℕ → Bool) (j : ℕ) (ts : Outs) → count_doors (each_door (λ j b. cond (t j b) 0 (suc b)) j ts) ≡ count_doors ts → every_door (λ j b. not (t j b)) j ts ≡ true
unfolding count_doors each_door every_door
doors-quiet t j [] e = refl
doors-quiet t j (s ∷ ts) e = let x = doors-fewer (λ j b. cond (t j b) 0 (suc b)) (suc j) ts in grind (arith, e, x, doors-quiet t (suc j) ts)

pub layer-quiet : (t : ℕ → ℕ → ℕ → Bool) (i : ℕ) (L : Layer) → count_layer (each_node (λ a j b. cond (t a j b) 0 (suc b)) i L) ≡ count_layer L → every_arc (λ a j b. not (t a j b)) i L ≡ true
unfolding count_layer each_node every_arc
layer-quiet t i [] e = refl
layer-quiet t i (nd ∷ L) e =
    let x = doors-fewer (λ j b. cond (t i j b) 0 (suc b)) 1 nd in
    let y = nodes-fewer (λ a j b. cond (t a j b) 0 (suc b)) (suc i) L in
    grind (arith, e, x, y, doors-quiet (t i) 1 nd, layer-quiet t (suc i) L)

-- ---- a filter takes out arcs, and where it takes out none, none goes
-- a layer of which no arc fails the test stays as it is
kept-layer : (t : ℕ → ℕ → ℕ → Bool) (L : Layer) → every_arc (λ a j b. not (t a j b)) 0 L ≡ true → redirect (λ a j b. cond (t a j b) 0 (suc b)) L ≡ L
kept-layer t L e = redirect-same (λ a j b. cond (t a j b) 0 (suc b)) L
    (λ a j b g. ap (λ (q : Bool). cond q 0 (suc b)) (not-true (t a j b) (every_arc-at (λ a j b. not (t a j b)) 0 L a a j b (omega arith) e g)))

module _ {S V : Type 0} (goes : ℕ → ℕ → ℕ → Option (Down S V) → Option Up → Bool) where
  -- whether the arc by j from place a to place b goes, with the labels x of a layer i that has h layers of arcs from there on
  abbrev gone : ℕ → ℕ → LayerLabels S V → ℕ → ℕ → ℕ → Bool
  gone i h x a j b = goes i h j (get_or x.downs a None) (get_or x.ups b None)

  pub kept-fewer : (i : ℕ) (Ls : Net) (labs : List (LayerLabels S V)) → count_arcs (kept_arcs goes i Ls labs) ≤ count_arcs Ls
  unfolding count_arcs kept_arcs
  kept-fewer i (L ∷ Ls) (x ∷ labs) = omega (arith, redirect-fewer (λ a j b. cond (gone i (suc (length Ls)) x a j b) 0 (suc b)) L, kept-fewer (suc i) Ls labs)
  kept-fewer i Ls labs = omega arith

  -- if none goes, the arcs stay as they are
  pub all-kept : (i : ℕ) (Ls : Net) (labs : List (LayerLabels S V)) → keeps_all_arcs goes i Ls labs ≡ true → kept_arcs goes i Ls labs ≡ Ls
  unfolding kept_arcs keeps_all_arcs
  all-kept i (L ∷ Ls) (x ∷ labs) e = grind (arith, e, kept-layer (gone i (suc (length Ls)) x) L, all-kept (suc i) Ls labs)
  all-kept i Ls labs e = refl

  -- if as many arcs stay, none goes
  pub none-gone : (i : ℕ) (Ls : Net) (labs : List (LayerLabels S V)) → count_arcs (kept_arcs goes i Ls labs) ≡ count_arcs Ls → keeps_all_arcs goes i Ls labs ≡ true
  unfolding kept_arcs keeps_all_arcs count_arcs redirect
  none-gone i (L ∷ Ls) (l ∷ labs) e =
      let t : ℕ → ℕ → ℕ → Bool = gone i (suc (length Ls)) l in
      let x = nodes-fewer (λ a j b. cond (t a j b) 0 (suc b)) 0 L in
      grind (arith, e, x, kept-fewer (suc i) Ls labs, layer-quiet t 0 L, none-gone (suc i) Ls labs)
  none-gone i Ls labs e = refl

  -- as many arcs stay exactly when none goes
  pub kept-same : (i : ℕ) (Ls : Net) (labs : List (LayerLabels S V)) → eqb (count_arcs (kept_arcs goes i Ls labs)) (count_arcs Ls) ≡ keeps_all_arcs goes i Ls labs
  kept-same i Ls labs = grind (arith, nat_tests, none-gone i Ls labs, all-kept i Ls labs)

-- ---- settled: a sweep would change nothing
module _ {S V : Type 0} (by : Setting S V) where
  abbrev Tests : ℕ → ℕ → ℕ → Option (Down S V) → Option Up → Bool
  Tests = is_barred by.round by.rule

  -- the labels worked out for all layers
  abbrev All : Net → List (LayerLabels S V)
  All Ls = labels_from by (first_labels by.rule by.tally) Ls

  pub sweep-fewer : (Ls : Net) → count_arcs (sweep by Ls) ≤ count_arcs Ls
  unfolding sweep
  sweep-fewer Ls = omega (arith, tidied-fewer (kept_arcs Tests 0 Ls (All Ls)), kept-fewer Tests 0 Ls (All Ls))

  -- a sweep that takes out no arc leaves all as it is
  pub sweep-same : (Ls : Net) → width Ls ≡ 1 → IsTied Ls → count_arcs (sweep by Ls) ≡ count_arcs Ls → sweep by Ls ≡ Ls
  unfolding sweep
  sweep-same Ls w t c = grind (arith, c, tidied-fewer (kept_arcs Tests 0 Ls (All Ls)), kept-fewer Tests 0 Ls (All Ls), all-kept Tests 0 Ls (All Ls), none-gone Tests 0 Ls (All Ls), tidied-same Ls w t)

  -- settled is yes exactly when the in-arcs agree and a sweep would answer 0
  pub settled-yes : (Ls : Net) → width Ls ≡ 1 → IsTied Ls → settled by Ls ≡ true → (agrees by (first_labels by.rule by.tally) Ls ≡ true) × (sweep by Ls ≡ Ls)
  unfolding settled settles sweep
  settled-yes Ls w t e = grind (arith, e, all-kept Tests 0 Ls (All Ls), tidied-same Ls w t)

  pub settled-if : (Ls : Net) → agrees by (first_labels by.rule by.tally) Ls ≡ true → count_arcs (sweep by Ls) ≡ count_arcs Ls → settled by Ls ≡ true
  unfolding settled settles sweep
  settled-if Ls a c = grind (arith, a, c, tidied-fewer (kept_arcs Tests 0 Ls (All Ls)), kept-fewer Tests 0 Ls (All Ls), none-gone Tests 0 Ls (All Ls))
