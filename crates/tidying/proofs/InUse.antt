-- The nodes of a layer, its places in use, stand first
use Rattle.std.proofs.Common.{◌≡◌, ℕ, zero, suc, ◌<◌, ◌≤◌, true, not, eqb, List, [], ◌∷◌, ◌++◌, length, map, get_or, take, drop, replicate, refl, ap, ap₂, inl, inr, arith}
use Rattle.std.specs.List.{All, prefix_len}
use Rattle.std.proofs.lemmas.Bool.{cases_Bool, cond_both}
use Rattle.std.proofs.lemmas.List.{length-append, length-drop, length-map, length-take}
use Rattle.layers.specs.declared.node.Node.{Node}
use Rattle.layers.specs.Records.{is_used, nodes_in}
use Rattle.layers.proofs.Shaped.{standing-short}
use Rattle.tidying.specs.InUse.{on_nodes}

module _ {S V : Type 0} where
  pub nodes-counted : (us : List (Node S V)) → prefix_len (λ (u : Node S V). not (eqb u.label.down.lasts 0)) us ≡ length (nodes_in us)
  nodes-counted [] = refl
  nodes-counted (x ∷ xs) = grind (arith, nodes-counted xs)

  pub nodes-few : (w : ℕ) (xs : List (Node S V)) → length (nodes_in (take w xs)) ≤ w
  nodes-few w xs = omega (arith, standing-short (take w xs), length-take w xs)

  pub nodes-first : (us : List (Node S V)) → take (length (nodes_in us)) us ≡ nodes_in us
  nodes-first [] = refl
  nodes-first (u ∷ us) = cond_both (is_used u) (u ∷ nodes_in us) [] (λ ns. take (length ns) (u ∷ us) ≡ ns) (λ e. ap (λ ys. u ∷ ys) (nodes-first us)) (λ e. refl)

  pub nodes-used : (us : List (Node S V)) (a : ℕ) (d : Node S V) → a < length (nodes_in us) → is_used (get_or (nodes_in us) a d) ≡ true
  nodes-used [] a d = λ lt. absurd (omega arith)
  nodes-used (u ∷ us) zero d = cond_both (is_used u) (u ∷ nodes_in us) [] (λ ns. 0 < length ns → is_used (get_or ns 0 d) ≡ true) (λ e lt. e) (λ e lt. absurd (omega arith))
  nodes-used (u ∷ us) (suc a) d = cond_both (is_used u) (u ∷ nodes_in us) [] (λ ns. suc a < length ns → is_used (get_or ns (suc a) d) ≡ true) (λ e lt. nodes-used us a d (omega arith)) (λ e lt. absurd (omega arith))

  -- none stands after them
  pub nodes-past : (us : List (Node S V)) → nodes_in (drop (length (nodes_in us)) us) ≡ []
  nodes-past [] = refl
  nodes-past (u ∷ us) = elim (cases_Bool (is_used u)) [ inl e ↦ rw e (nodes-past us) | inr e ↦ rw (e, e) refl ]

  module _ (f : Node S V → Node S V) where
    pub mapped-long : (us : List (Node S V)) → length (on_nodes (map f) us) ≡ length us
    mapped-long us = omega (arith, length-append (map f (nodes_in us)) (drop (length (nodes_in us)) us), length-map (nodes_in us) f, length-drop (length (nodes_in us)) us, standing-short us)

    pub mapped-nodes : ((x : Node S V) → is_used (f x) ≡ is_used x) → (us : List (Node S V)) → length (nodes_in (on_nodes (map f) us)) ≡ length (nodes_in us)
    mapped-nodes keeps [] = refl
    mapped-nodes keeps (u ∷ us) = elim (cases_Bool (is_used u)) [ inl e ↦ rw (e, keeps u, e) (ap suc (mapped-nodes keeps us)) | inr e ↦ rw (e, e) refl ]

    pub mapped-same : {Y : Type 0} (g : Node S V → Y) → ((x : Node S V) → g (f x) ≡ g x) → (us : List (Node S V)) → map g (on_nodes (map f) us) ≡ map g us
    mapped-same g keeps [] = refl
    mapped-same g keeps (u ∷ us) = elim (cases_Bool (is_used u)) [ inl e ↦ rw e (ap₂ (λ y ys. y ∷ ys) (keeps u) (mapped-same g keeps us)) | inr e ↦ rw e refl ]

  -- nodes that stand first are read first
  pub nodes-after : (us vs : List (Node S V)) → All (λ x. is_used x ≡ true) us → nodes_in (us ++ vs) ≡ us ++ nodes_in vs
  nodes-after [] vs h = refl
  nodes-after (u ∷ us) vs h = rw (h 0 u (omega arith)) (ap (λ ys. u ∷ ys) (nodes-after us vs (λ k d lt. h (suc k) d (omega arith))))

  pub nodes-blank : (z : Node S V) (m : ℕ) (vs : List (Node S V)) → nodes_in vs ≡ [] → (c : ℕ) → get_or (nodes_in (replicate m z ++ vs)) c z ≡ z
  nodes-blank z zero vs none c = rw none refl
  nodes-blank z (suc m) vs none zero = cond_both (is_used z) (z ∷ nodes_in (replicate m z ++ vs)) [] (λ ns. get_or ns 0 z ≡ z) (λ e. refl) (λ e. refl)
  nodes-blank z (suc m) vs none (suc c) = cond_both (is_used z) (z ∷ nodes_in (replicate m z ++ vs)) [] (λ ns. get_or ns (suc c) z ≡ z) (λ e. nodes-blank z m vs none c) (λ e. refl)
