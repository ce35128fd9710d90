-- Counting arcs in the flat list comes to counting them in the net.
use Rattle.std.proofs.Common.{◌≡◌, ℕ, zero, suc, ◌+◌, ◌*◌, ◌≤◌, List, [], ◌∷◌, map, length, get_or, take, drop, sum, sum_by, sym, refl, ap, ◌∙◌, ap₂, suc-mul, zero-mul, arith}
use Rattle.std.specs.List.{range_with_len}
use Rattle.std.proofs.Math.Seq.{take-add}
use Rattle.std.proofs.lemmas.List.Sums.{sum-map, sum_by-append, sum_by-cons}
use Rattle.std.proofs.lemmas.Simd.{map-map}
use Rattle.layers.specs.declared.node.Arcs.{Arcs}
use Rattle.layers.specs.declared.node.Node.{Node}
use Rattle.layers.specs.Net.{table, Outs, Layer, Net, node, count_doors, count_layer, count_arcs}
use Rattle.layers.specs.Records.{arcs_at}
use Rattle.layers.specs.Targets.{targets}
use Rattle.labels.proofs.Laying.{Arranged, Good, arcs_of}
use Rattle.tidying.specs.Counted.{arcs_within, arcs_of as many_of}
use Rattle.filter.specs.Steps.{arc_count}

-- how many of these are arcs
abbrev pub count_of : Arcs → ℕ
count_of x = count_doors (map (λ k. get_or x.to k 0) (range_with_len 0 16))

pub by-arcs : {S V : Type 0} (us : List (Node S V)) → arcs_within us ≡ sum_by count_of (map arcs_of us)
unfolding many_of targets
by-arcs us = sym (sum-map many_of us) ∙ ap sum (sym (map-map count_of arcs_of us)) ∙ sum-map count_of (map arcs_of us)

count_none : (m : ℕ) → count_doors (table m (λ k. get_or {A = ℕ} [] k 0)) ≡ 0
unfolding count_doors
count_none zero = refl
count_none (suc m) = count_none m

count-padded : (m : ℕ) (nd : Outs) → length nd ≤ m → count_doors (table m (λ k. get_or nd k 0)) ≡ count_doors nd
unfolding count_doors
count-padded m [] h = count_none m
count-padded zero (t ∷ nd) h = absurd (omega arith)
count-padded (suc m) (zero ∷ nd) h = count-padded m nd (omega arith)
count-padded (suc m) (suc b ∷ nd) h = ap suc (count-padded m nd (omega arith))

count-table : (W : ℕ) (L : Layer) → length L ≤ W → ((a : ℕ) → length (node L a) ≤ 16) → sum_by count_of (table W (arcs_at L)) ≡ count_layer L
unfolding count_layer
count-table zero [] h f = refl
count-table zero (nd ∷ L) h f = absurd (omega arith)
count-table (suc W) [] h f = sum_by-cons count_of (arcs_at [] 0) (table W (arcs_at [])) ∙ ap₂ ◌+◌ (count_none 16) (count-table W [] (omega arith) f)
count-table (suc W) (nd ∷ L) h f = sum_by-cons count_of (arcs_at (nd ∷ L) 0) (table W (arcs_at L)) ∙ ap₂ ◌+◌ (count-padded 16 nd (f 0)) (count-table W L (omega arith) (λ a. f (suc a)))

module _ {S V : Type 0} (W : ℕ) where
  count-arranged : (Ls : Net) (xs : List (Node S V)) → Good W Ls → Arranged W Ls xs → arcs_within (take (length Ls * W) xs) ≡ count_arcs Ls
  unfolding count_arcs
  count-arranged [] xs g e = ap (λ (k : ℕ). arcs_within (take k xs)) (zero-mul W)
  count-arranged (L ∷ Ls) xs g e =
      let m = length Ls * W in
      ap arcs_within (ap (λ (k : ℕ). take k xs) (omega (arith, suc-mul (length Ls) W)) ∙ take-add W m xs) ∙ sum_by-append many_of (take W xs) (take m (drop W xs))
      ∙ ap₂ ◌+◌ (by-arcs (take W xs) ∙ ap (sum_by count_of) e.0 ∙ count-table W L g.1 g.0) (count-arranged Ls (drop W xs) g.3 e.1)

  pub arc-count : (n : ℕ) (Ls : Net) (xs : List (Node S V)) → length Ls ≡ n → Good W Ls → Arranged W Ls xs → arc_count n W xs ≡ count_arcs Ls
  unfolding arc_count
  arc-count n Ls xs d g e = ap (λ (k : ℕ). arcs_within (take (k * W) xs)) (sym d) ∙ count-arranged Ls xs g e
