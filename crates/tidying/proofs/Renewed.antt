-- The records of a layer, renewed by the numbers of the next, and the numbers that they get
use Rattle.std.proofs.Common.{◌≡◌, ℕ, zero, suc, ◌-◌, ◌<◌, ◌≤◌, Bool, true, false, ◌≢◌, List, [], ◌∷◌, ◌++◌, map, length, get_or, take, drop, replicate, filter, sym, refl, ap, ◌∙◌, inl, inr, append_assoc, add-one, arith}
use Rattle.std.specs.List.{All}
use Rattle.std.proofs.lemmas.Bool.{cases_Bool, cases_lt, false_from_ne_true, false≢true, true≢false}
use Rattle.std.proofs.lemmas.List.{get_or_past, length-map}
use Rattle.std.proofs.lemmas.List.FromFn.{get_or-map-range_with_len, length-map-range_with_len}
use Rattle.std.proofs.lemmas.List.Elements.{All-filter, All-from_get_or, filter_passes}
use Rattle.layers.specs.declared.node.Node.{Node}
use Rattle.layers.specs.Records.{is_used, nodes_in}
use Rattle.layers.specs.Targets.{targets, with_targets}
use Rattle.layers.specs.Tidy.{rank, renumber}
use Rattle.layers.proofs.Flows.{renumber-at}
use Rattle.tidying.specs.Tidied.{lively, reached_next, renewed, renew_at, renewals, together, numbers, tidied}
use Rattle.tidying.proofs.InUse.{nodes-few, nodes-used, nodes-past, nodes-after, nodes-blank}
use Rattle.tidying.proofs.Lists.{get_or-mapped, get_or-tail, zero-or-suc}
use Rattle.tidying.proofs.Marks.{On}
use Rattle.tidying.proofs.Numbers.{number-at, number-none}
use Rattle.tidying.proofs.Steps.{front}
use Rattle.tidying.proofs.Targets.{Bare, length-targets, lively-has, lively-from}

module _ {S V : Type 0} (z : Node S V) (new : List ℕ) (x : Node S V) where
  renewed-on : (b : Bool) → b ≡ true → renewed z b new x ≡ with_targets x (map (λ t. get_or new t 0) (targets x))
  unfolding renewed
  renewed-on true e = refl
  renewed-on false e = absurd (false≢true e)

  renewed-off : (b : Bool) → b ≡ false → renewed z b new x ≡ z
  unfolding renewed
  renewed-off true e = absurd (true≢false e)
  renewed-off false e = refl

renumber-back : (fs : List Bool) (b c : ℕ) → renumber fs b ≡ suc c → (get_or fs b false ≡ true) × (rank fs b ≡ c)
unfolding renumber
renumber-back fs b c e = grind (arith, e)

-- a node with arcs among these stands at its rank among those that have some
kept-at : {S V : Type 0} (vs : List (Node S V)) (a : ℕ) (z : Node S V) → lively (get_or vs a z) ≡ true → get_or (filter lively vs) (rank (map lively vs) a) z ≡ get_or vs a z
unfolding rank
kept-at [] a z e = refl
kept-at (v ∷ vs) zero z e = rw e
kept-at (v ∷ vs) (suc a) z e = elim (cases_Bool (lively v)) [ inl h ↦ rw h (kept-at vs a z e) | inr h ↦ rw h (kept-at vs a z e) ]

module _ {S V : Type 0} (w : ℕ) (z : Node S V) (bare : Bare z) (small : w < 256) where
  dead : lively z ≡ false
  dead = false_from_ne_true (lively z) (λ live. let s = lively-has z live in absurd (omega (arith, bare s.0, s.2)))

  -- an arc's node stands within the layer, and its door within the doors
  pub arc-in : (us : List (Node S V)) (a k b : ℕ) → get_or (targets (get_or us a z)) k 0 ≡ suc b → (a < length us) × (k < length (targets (get_or us a z)))
  arc-in us a k b e = (
    elim (cases_lt a (length us)) [ inl lt ↦ lt | inr ge ↦ absurd (let none = ap (λ x. get_or (targets x) k 0) (get_or_past us a z ge) in omega (arith, none, bare k, e)) ],
    elim (cases_lt k (length (targets (get_or us a z)))) [ inl lt ↦ lt | inr ge ↦ absurd (omega (arith, get_or_past (targets (get_or us a z)) k 0 ge, e)) ],
  )

  pub numbers-zero : (r : ℕ) (from : List Bool) (xs : List (Node S V)) → get_or (numbers w z r from xs) 0 0 ≡ 0
  unfolding numbers
  numbers-zero zero from xs = refl
  numbers-zero (suc r) from xs = number-none (renewals z from (numbers w z r (reached_next from (nodes_in (take w xs))) (drop w xs)) (nodes_in (take w xs)))

  -- ---- the first of r + 1 layers
  module _ (r : ℕ) (from : List Bool) (xs : List (Node S V)) where
    abbrev us : List (Node S V)
    us = nodes_in (take w xs)

    abbrev new : List ℕ
    new = numbers w z r (reached_next from us) (drop w xs)

    abbrev pub renewed-layer : List (Node S V)
    renewed-layer = renewals z from new us

    pub long : length renewed-layer ≡ length us
    unfolding renewals
    long = length-map-range_with_len (renew_at z from new us) 0 (length us)

    at : (a : ℕ) → a < length us → get_or renewed-layer a z ≡ renewed z (get_or from (suc a) false) new (get_or us a z)
    unfolding renewals
    at a lt = get_or-map-range_with_len (renew_at z from new us) 0 (length us) a a z lt (omega arith) ∙ ap (λ n. renewed z (get_or from n false) new (get_or us a z)) (add-one a)

    at-on : (a : ℕ) → a < length us → On from (suc a) → get_or renewed-layer a z ≡ with_targets (get_or us a z) (map (λ t. get_or new t 0) (targets (get_or us a z)))
    at-on a lt on = at a lt ∙ renewed-on z new (get_or us a z) (get_or from (suc a) false) on

    off : (a : ℕ) → get_or from (suc a) false ≡ false → get_or renewed-layer a z ≡ z
    off a e = elim (cases_lt a (length us)) [ inl lt ↦ at a lt ∙ renewed-off z new (get_or us a z) (get_or from (suc a) false) e | inr ge ↦ get_or_past renewed-layer a z (omega (arith, long)) ]

    pub renewed-sent : (a k : ℕ) → On from (suc a) → get_or (targets (get_or renewed-layer a z)) k 0 ≡ get_or new (get_or (targets (get_or us a z)) k 0) 0
    renewed-sent a k on = elim (cases_lt a (length us)) [
      | inl lt ↦ ap (λ x. get_or (targets x) k 0) (at-on a lt on) ∙ with-new (get_or us a z)
      | inr ge ↦ rw (get_or_past us a z ge, get_or_past renewed-layer a z (omega (arith, long)), bare k) (sym (numbers-zero r (reached_next from us) (drop w xs)))
    ]
      where
        with-new : (x : Node S V) → get_or (targets (with_targets x (map (λ t. get_or new t 0) (targets x)))) k 0 ≡ get_or new (get_or (targets x) k 0) 0
        with-new x = unfold targets in get_or-mapped (λ t. get_or new t 0) (targets x) k 0 0 (numbers-zero r (reached_next from us) (drop w xs))

    -- with arcs are those that are reached and have an arc to a node with a number
    pub renewed-live : (a : ℕ) → lively (get_or renewed-layer a z) ≡ true → On from (suc a) × (k : ℕ) × (b : ℕ) × (get_or (targets (get_or us a z)) k 0 ≡ suc b) × (get_or new (suc b) 0 ≢ 0)
    renewed-live a live = elim (cases_Bool (get_or from (suc a) false)) [
      | inl on ↦
          (let s = lively-has (get_or renewed-layer a z) live in
          let n = sym (renewed-sent a s.0 on) ∙ s.2 in
          elim (zero-or-suc (get_or (targets (get_or us a z)) s.0 0)) [
            | inl e ↦ absurd (omega (arith, numbers-zero r (reached_next from us) (drop w xs), ap (λ t. get_or new t 0) e, n))
            | inr h ↦ (on, s.0, h.0, h.1, λ none. absurd (omega (arith, none, ap (λ t. get_or new t 0) h.1, n)))
          ])
      | inr out ↦ absurd (true≢false (sym live ∙ ap lively (off a out) ∙ dead))
    ]

    pub live-at : (a : ℕ) → get_or (map lively renewed-layer) a false ≡ lively (get_or renewed-layer a z)
    live-at a = get_or-mapped lively renewed-layer a z false dead

    -- they are in use, and have sixteen targets
    pub live-used : (a : ℕ) → lively (get_or renewed-layer a z) ≡ true → (is_used (get_or renewed-layer a z) ≡ true) × (length (get_or renewed-layer a z).arcs.to ≡ 16)
    live-used a live =
        let l = renewed-live a live in
        let lt = (arc-in us a l.1 l.2 l.3).0 in
        let e = at-on a lt l.0 in
        (ap is_used e ∙ nodes-used (take w xs) a z lt, ap (λ (x : Node S V). length x.arcs.to) e ∙ length-map (targets (get_or us a z)) (λ t. get_or new t 0) ∙ length-targets (get_or us a z))

    pub number-is : (a : ℕ) → get_or (numbers w z (suc r) from xs) (suc a) 0 ≡ renumber (map lively renewed-layer) a
    unfolding numbers
    number-is a = number-at renewed-layer a (omega (arith, long, nodes-few w xs))

    -- exactly they get a number
    pub live-number : (a k b : ℕ) → On from (suc a) → get_or (targets (get_or us a z)) k 0 ≡ suc b → get_or new (suc b) 0 ≢ 0 → (c : ℕ) × (get_or (numbers w z (suc r) from xs) (suc a) 0 ≡ suc c)
    live-number a k b on e ne = elim (zero-or-suc (get_or new (suc b) 0)) [
      | inl o ↦ absurd (ne o)
      | inr h ↦ (
        rank (map lively renewed-layer) a,
        number-is a ∙ renumber-at (map lively renewed-layer) a (live-at a ∙ lively-from (get_or renewed-layer a z) k h.0 (renewed-sent a k on ∙ ap (λ t. get_or new t 0) e ∙ h.1)),
      )
    ]

    pub number-live : (a c : ℕ) → get_or (numbers w z (suc r) from xs) (suc a) 0 ≡ suc c → (lively (get_or renewed-layer a z) ≡ true) × (rank (map lively renewed-layer) a ≡ c)
    number-live a c e = let n = renumber-back (map lively renewed-layer) a c (sym (number-is a) ∙ e) in (sym (live-at a) ∙ n.0, n.1)

    pub all-used : All (λ x. is_used x ≡ true) (filter lively renewed-layer)
    all-used k d lt =
        let P : Node S V → Type 0 = λ x. lively x ≡ true → is_used x ≡ true in
        All-filter lively P renewed-layer (All-from_get_or P renewed-layer z (λ i lt live. (live-used i live).0)) k d lt (filter_passes lively renewed-layer k d lt)

    -- read as nodes, what the layer becomes are those with arcs
    pub nodes-left : w ≤ length xs → (c : ℕ) → get_or (nodes_in (take w (tidied w z (suc r) from xs))) c z ≡ get_or (filter lively renewed-layer) c z
    unfolding together
    nodes-left fits c =
        let F = filter lively renewed-layer in
        let R = replicate (length renewed-layer - length F) z in
        let D = drop (length us) (take w xs) in
        rw (front w z r from xs fits, append_assoc, nodes-after F (R ++ D) all-used) (get_or-tail F (nodes_in (R ++ D)) z (nodes-blank z (length renewed-layer - length F) D (nodes-past (take w xs))) c)

    -- and so each has its arcs, numbered anew
    pub sent-left : w ≤ length xs → (a c k : ℕ) → get_or (numbers w z (suc r) from xs) (suc a) 0 ≡ suc c
        → get_or (targets (get_or (nodes_in (take w (tidied w z (suc r) from xs))) c z)) k 0 ≡ get_or new (get_or (targets (get_or us a z)) k 0) 0
    sent-left fits a c k e =
        let l = number-live a c e in
        ap (λ x. get_or (targets x) k 0) (nodes-left fits c ∙ ap (λ c. get_or (filter lively renewed-layer) c z) (sym l.1) ∙ kept-at renewed-layer a z l.0) ∙ renewed-sent a k (renewed-live a l.0).0
