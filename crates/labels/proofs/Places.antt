-- Where the places that are not in use have blank labels, a pass over those in use is a pass over all.
use Rattle.std.proofs.Common.{◌≡◌, ℕ, zero, suc, ◌<◌, ◌≤◌, true, false, not, eqb, List, [], ◌∷◌, ◌++◌, map, length, get_or, take, drop, fold, sym, refl, ap, ◌∙◌, ap₂, arith}
use Rattle.std.proofs.lemmas.Bool.Decides.{nat_tests}
use Rattle.std.proofs.lemmas.Bool.{eq-eqb}
use Rattle.round.specs.Clock.{latest_finish}
use Rattle.round.specs.declared.table.Round.{Round}
use Rattle.layers.specs.declared.node.Label.{Label}
use Rattle.layers.specs.declared.node.Node.{Node}
use Rattle.layers.specs.Labels.{blank_label, no_up}
use Rattle.layers.specs.Net.{Net}
use Rattle.layers.specs.Records.{is_used, nodes_in}
use Rattle.layers.specs.Settings.{Setting}
use Rattle.labels.specs.Passes.{Early, cleared, with_up, renewed, sources, spread, crossed_all, next_layer, next_renewed, end_renewed, ups_of, gathered_up, risen}
use Rattle.labels.proofs.Scattered.{spreads-layer}

module _ {S V : Type 0} where
  -- the first m of these places are in use, and the others are as Q says
  abbrev pub Stands : (Node S V → Type 0) → ℕ → List (Node S V) → Type 0
  Stands Q m us = (a : ℕ) (d : Node S V) → a < length us → (a < m → is_used (get_or us a d) ≡ true) × (m ≤ a → Q (get_or us a d))

  pub all-same : (f : Node S V → Node S V) (us : List (Node S V)) → ((a : ℕ) (d : Node S V) → a < length us → f (get_or us a d) ≡ get_or us a d) → map f us ≡ us
  all-same f [] g = refl
  all-same f (u ∷ us) g = grind (arith, g 0 u, all-same f us (λ a d lt. g (suc a) d (omega arith)))

  -- so what alters none of the others may go over all
  pub renewed-map : (f : Node S V → Node S V) (m : ℕ) (us : List (Node S V)) → Stands (λ x. (is_used x ≡ false) × (f x ≡ x)) m us → renewed f us ≡ map f us
  renewed-map f m [] s = refl
  renewed-map f zero (u ∷ us) s = grind (arith, ((s 0 u (omega arith)).1 (omega arith)), all-same f us (λ a d lt. ((s (suc a) d (omega arith)).1 (omega arith)).1))
  renewed-map f (suc m) (u ∷ us) s =
      let here = s 0 u (omega arith) in
      grind (arith, here.0, renewed-map f m us (λ a d lt. let r = s (suc a) d (omega arith) in ((λ l. r.0 (omega arith)), (λ l. r.1 (omega arith)))))

  -- a place that is not in use gathers nothing
  pub idle-stays : (r : Round) (vs : List (Node S V)) (x : Node S V) → x.label.down.lasts ≡ 0 → x.label.up ≡ no_up → (is_used x ≡ false) × (risen r vs x ≡ x)
  unfolding risen ups_of gathered_up
  idle-stays r vs x e n = let q = eq-eqb x.label.down.lasts 0 e in rw q (refl, ap (with_up x) (sym n))

  sources-are : (us : List (Node S V)) → ((a : ℕ) (d : Node S V) → a < length us → Early (latest_finish 15) (get_or us a d)) → sources us ≡ nodes_in us
  sources-are [] h = refl
  sources-are (u ∷ us) h = grind (arith, nat_tests, h 0 u, sources-are us (λ a d lt. h (suc a) d (omega arith)))

module _ {S V : Type 0} (by : Setting S V) where
  abbrev pub Blank : Node S V → Type 0
  Blank x = x.label ≡ record { down = blank_label by.rule by.tally; up = no_up }

  blank-stays : (x : Node S V) → Blank x → (is_used x ≡ false) × (cleared by.rule by.tally x ≡ x)
  blank-stays x e = (
    ap (λ (l : Label S V). not (eqb l.down.lasts 0)) e,
    ap (λ (l : Label S V). record { arcs = x.arcs; label = l }) (ap (λ (l : Label S V). record { down = blank_label by.rule by.tally; up = l.up }) e ∙ sym e),
  )

  pub next-is : (m : ℕ) (us vs : List (Node S V)) → ((a : ℕ) (d : Node S V) → a < length us → Early (latest_finish 15) (get_or us a d)) → Stands Blank m vs → next_renewed by us vs ≡ next_layer by us vs
  unfolding next_renewed crossed_all
  next-is m us vs h s = ap₂ (λ ys zs. fold (spread by) ys zs) (renewed-map (cleared by.rule by.tally) m vs (λ a d lt. let r = s a d lt in (r.0, λ le. blank-stays (get_or vs a d) (r.1 le)))) (sources-are us h) ∙ spreads-layer by us vs

  pub end-is : (us vs : List (Node S V)) → ((a : ℕ) (d : Node S V) → a < length us → Early (latest_finish 15) (get_or us a d)) → end_renewed by us vs ≡ next_layer by us (take 1 vs) ++ drop 1 vs
  unfolding end_renewed crossed_all
  end-is us vs h = ap (λ ys. ys ++ drop 1 vs) (ap (fold (spread by) (map (cleared by.rule by.tally) (take 1 vs))) (sources-are us h) ∙ spreads-layer by us (take 1 vs))

  -- in each layer of the net only places of nodes are in use, and the others have blank labels
  abbrev pub Ready : Net → List (Node S V) → Type 0
  Ready [] xs = Unit {0}
  Ready (L ∷ Ls) xs = ((m : ℕ) × (m ≤ length L) × Stands Blank m (take by.width xs)) × Ready Ls (drop by.width xs)
