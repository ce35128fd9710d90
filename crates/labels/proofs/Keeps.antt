-- What the passes keep: the arcs, and each pass the labels of the other.
use Rattle.std.proofs.Common.{◌≡◌, ℕ, zero, suc, ◌-◌, ◌*◌, List, [], ◌∷◌, ◌++◌, map, take, drop, sym, refl, ap, ◌∙◌, ap₂, arith}
use Rattle.std.proofs.lemmas.List.{map-append, take-map, take-append-drop}
use Rattle.std.proofs.Math.Seq.{map-set_same}
use Rattle.round.specs.declared.table.Round.{Round}
use Rattle.layers.specs.declared.node.Node.{Node}
use Rattle.layers.specs.declared.node.Down.{Down}
use Rattle.layers.specs.declared.node.Up.{Up}
use Rattle.layers.specs.Settings.{Setting}
use Rattle.labels.specs.Passes.{with_down, with_up, ended, blank_node, cleared, unlabelled, begun, renewed, sources, spread, crossed_all, next_renewed, end_renewed, renewed_after, risen, risen_from, pass_up, relabelled_used, relabelled}
use Rattle.labels.proofs.Climbs.{arcs_of}
use Rattle.labels.proofs.Folds.{folded_keeps}
use Rattle.labels.proofs.Scattered.{spread-has}

module _ {S V : Type 0} where
  pub fronts : {X : Type 0} (f : Node S V → X) (k : ℕ) (xs ys : List (Node S V)) → map f xs ≡ map f ys → map f (take k xs) ≡ map f (take k ys)
  fronts f k xs ys e = sym (take-map f k xs) ∙ ap (take k) e ∙ take-map f k ys

  -- two parts, each the same to f
  pub in-parts : {X : Type 0} (f : Node S V → X) (k : ℕ) (A B xs : List (Node S V)) → map f A ≡ map f (take k xs) → map f B ≡ map f (drop k xs) → map f (A ++ B) ≡ map f xs
  in-parts f k A B xs a b = map-append f A B ∙ ap₂ (λ ys zs. ys ++ zs) a b ∙ sym (map-append f (take k xs) (drop k xs)) ∙ ap (map f) (take-append-drop k xs)

  pub each-kept : {X : Type 0} (f : Node S V → X) (g : Node S V → Node S V) → ((x : Node S V) → f (g x) ≡ f x) → (us : List (Node S V)) → map f (map g us) ≡ map f us
  each-kept f g h [] = refl
  each-kept f g h (u ∷ us) = grind (arith, h u, each-kept f g h us)

  renewed-keeps : {X : Type 0} (f : Node S V → X) (g : Node S V → Node S V) → ((x : Node S V) → f (g x) ≡ f x) → (us : List (Node S V)) → map f (renewed g us) ≡ map f us
  renewed-keeps f g h [] = refl
  renewed-keeps f g h (u ∷ us) = grind (arith, h u, renewed-keeps f g h us)

  -- ---- the pass up keeps what is not an upward label
  module _ {X : Type 0} (f : Node S V → X) (h : (x : Node S V) (u : Up) → f (with_up x u) ≡ f x) (r : Round) where
    pub rises_keep : (w k : ℕ) (xs : List (Node S V)) → map f (risen_from r w k xs) ≡ map f xs
    unfolding risen_from risen
    rises_keep w zero xs = in-parts f w _ _ xs (renewed-keeps f _ (λ x. h x _) (take w xs)) (in-parts f 1 _ _ (drop w xs) (each-kept f ended (λ x. h x _) (take 1 (drop w xs))) refl)
    rises_keep w (suc k) xs = in-parts f w _ _ xs (renewed-keeps f _ (λ x. h x _) (take w xs)) (rises_keep w k (drop w xs))

module _ {S V : Type 0} (by : Setting S V) where
  -- ---- the pass down keeps what is not a downward label
  module _ {X : Type 0} (f : Node S V → X) (h : (x : Node S V) (l : Down S V) → f (with_down x l) ≡ f x) where
    crossed-keeps : (us vs : List (Node S V)) → map f (crossed_all by us vs) ≡ map f vs
    unfolding crossed_all
    crossed-keeps us vs =
        let P : List (Node S V) → Type 0 = λ ys. map f ys ≡ map f vs in
        folded_keeps P (spread by) (spread-has by P (λ ys i l e. map-set_same f ys i _ (blank_node by.rule by.tally) (h _ _) ∙ e)) vs (sources us) refl

    pub renewals-keep : (k : ℕ) (xs : List (Node S V)) → map f (renewed_after by k xs) ≡ map f xs
    unfolding renewed_after next_renewed end_renewed
    renewals-keep zero xs =
        let rest = drop by.width xs in
        in-parts f by.width _ _ xs refl (in-parts f 1 _ _ rest (crossed-keeps (take by.width xs) (map (cleared by.rule by.tally) (take 1 rest)) ∙ each-kept f (cleared by.rule by.tally) (λ x. h x _) (take 1 rest)) refl)
    renewals-keep (suc k) xs =
        let rest = drop by.width xs in
        in-parts f by.width _ _ xs refl (renewals-keep k _ ∙ in-parts f by.width _ _ rest (crossed-keeps (take by.width xs) (renewed (cleared by.rule by.tally) (take by.width rest)) ∙ renewed-keeps f (cleared by.rule by.tally) (λ x. h x _) (take by.width rest)) refl)

    pub begun-keeps : (xs : List (Node S V)) → map f (begun by.rule by.tally xs) ≡ map f xs
    begun-keeps [] = refl
    begun-keeps (x ∷ xs) = ap (λ y. y ∷ map f xs) (h x _)

  -- the arcs of any list stay
  pub relabelled-arcs : (xs : List (Node S V)) → map arcs_of (relabelled by xs) ≡ map arcs_of xs
  unfolding relabelled relabelled_used pass_up
  relabelled-arcs xs =
      let at = by.round.n * by.width in
      let ys = map (unlabelled by.rule by.tally) (take at xs) ++ drop at xs in
      rises_keep arcs_of (λ x u. refl) by.round by.width (by.round.n - 1) _ ∙ renewals-keep arcs_of (λ x l. refl) (by.round.n - 1) (begun by.rule by.tally ys) ∙ begun-keeps arcs_of (λ x l. refl) ys
      ∙ in-parts arcs_of at _ _ xs (each-kept arcs_of _ (λ x. refl) (take at xs)) refl
