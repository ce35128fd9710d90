-- Where records are arranged as a net, tidying them is tidying the net
use Rattle.std.proofs.Common.{◌≡◌, ℕ, zero, suc, ◌+◌, ◌-◌, ◌<◌, ◌≤◌, Bool, true, false, List, [], ◌∷◌, ◌++◌, map, length, get_or, take, drop, replicate, filter, Some, None, Option, sym, refl, ap, ◌∙◌, ap₂, inl, inr, append_assoc, arith}
use Rattle.std.specs.List.{All}
use Rattle.std.proofs.lemmas.Bool.{cases_Bool, cases_lt, true_from_ne_false}
use Rattle.std.proofs.lemmas.Bool.Decides.{same_from_decides}
use Rattle.std.proofs.lemmas.List.{ext_get_or, get_or-drop, get_or_append_left, get_or-append_right, get_or_default, get_or_past, length-append, length-drop, length-map, length-take, map-append}
use Rattle.std.proofs.lemmas.List.Elements.{All-append, All-replicate}
use Rattle.layers.specs.declared.node.Node.{Node}
use Rattle.layers.specs.Flow.{gather, climbs_of, next, up}
use Rattle.layers.specs.Net.{table, Outs, Layer, Net, node, target, width, redirect}
use Rattle.layers.specs.Records.{is_used, nodes_in, padded_targets, arcs_at}
use Rattle.layers.specs.Settings.{Setting}
use Rattle.layers.specs.Targets.{targets, at_door}
use Rattle.layers.specs.Tidy.{Mark, marks_next, marks_up, flags, rank, compress, renumber, tidy, tidied_arcs}
use Rattle.layers.proofs.Bridge.{table-ext}
use Rattle.layers.proofs.Flows.{rank-zero, has-arc, redirect-get, mark-next, flags-at, renumber-at, table-long}
use Rattle.layers.proofs.Shaped.{standing-at}
use Rattle.layers.proofs.Tied.{flags-back, redirect-length, marked_from, climbs, climbs-from}
use Rattle.labels.specs.Passes.{blank_node}
use Rattle.labels.proofs.Laying.{arcs_of, Arranged, Good}
use Rattle.labels.proofs.Places.{Stands, Ready}
use Rattle.labels.proofs.RedirectNet.{table-list, padded-is, padded-at, arranged-long, arcs-arranged, targets-arranged}
use Rattle.tidying.specs.Tidied.{lively, reached_next, numbers, tidied, together, first_mark}
use Rattle.tidying.proofs.Lists.{get_or-mapped, get_or-tail}
use Rattle.tidying.proofs.Marks.{On, first-on, reached-on, on-reached}
use Rattle.tidying.proofs.Renewed.{arc-in, renewed-layer, long, renewed-sent, renewed-live, live-at, live-used, all-used, numbers-zero, number-is}
use Rattle.tidying.proofs.Steps.{block, block-long, front, back}
use Rattle.tidying.proofs.Targets.{Bare, bare-from, bare_counted, length-targets, lively-from, lively-none, targets_read}

-- each layer has as many places in use as the net has nodes
abbrev pub Standing : {S V : Type 0} → ℕ → Net → List (Node S V) → Type 0
Standing w [] xs = Unit {0}
Standing w (L ∷ Ls) xs = (length L ≡ length (nodes_in (take w xs))) × Standing w Ls (drop w xs)

-- in each of k layers the places that are not in use have the label of z
abbrev pub Blanks : {S V : Type 0} → ℕ → Node S V → ℕ → List (Node S V) → Type 0
Blanks w z zero xs = Unit {0}
Blanks w z (suc k) xs = All (λ x. x.label ≡ z.label) (drop (length (nodes_in (take w xs))) (take w xs)) × Blanks w z k (drop w xs)

-- ---- nets
flags-long : (fr us : List (Option Mark)) → length fr ≡ length us → length (flags fr us) ≡ length fr
unfolding flags
flags-long [] us e = refl
flags-long (x ∷ fr) [] e = absurd (omega arith)
flags-long (x ∷ fr) (u ∷ us) e = ap suc (flags-long fr us (omega arith))

ups-long : (Ls : Net) → length (marks_up Ls) ≡ width Ls
unfolding marks_up up
ups-long [] = refl
ups-long (L ∷ Ls) = length-map L (λ nd. gather {A = Mark} (λ x y. tt) (climbs_of {A = Mark} (λ m k. tt) (marks_up Ls) 1 nd))

next-long : (fr : List (Option Mark)) (L : Layer) (n : ℕ) → length (marks_next fr L n) ≡ n
unfolding marks_next next
next-long fr L n = table-long n _

-- the first layer's one node stays, and has no arcs if it has no flag
one-row : (w : ℕ) (gs : List Bool) (R : Layer) → length gs ≡ 1 → length R ≡ 1 → (get_or gs 0 false ≡ false → arcs_at R 0 ≡ arcs_at [] 0) → (table w (arcs_at (compress gs R)) ≡ table w (arcs_at R)) × (length (compress gs R) ≤ length R)
unfolding compress
one-row w (true ∷ []) (x ∷ []) n one h = (refl, omega arith)
one-row w (false ∷ []) (x ∷ []) n one h = (table-ext w (arcs_at []) (arcs_at (x ∷ [])) (λ k lt. go k), omega arith)
  where
    go : (k : ℕ) → arcs_at [] k ≡ arcs_at (x ∷ []) k
    go zero = sym (h refl)
    go (suc k) = refl
one-row w [] R n one h = absurd (omega arith)
one-row w (g ∷ f ∷ gs) R n one h = absurd (omega arith)
one-row w (g ∷ []) [] n one h = absurd (omega arith)
one-row w (g ∷ []) (x ∷ y ∷ R) n one h = absurd (omega arith)

-- ---- records
module _ {S V : Type 0} where
  -- those with arcs have the arcs of what is compressed alike
  kept-rows : (z : Node S V) (vs : List (Node S V)) (R : Layer) → length vs ≡ length R → ((i : ℕ) → lively (get_or vs i z) ≡ true → (get_or vs i z).arcs ≡ arcs_at R i)
      → map arcs_of (filter lively vs) ≡ map (λ nd. record { to = padded_targets nd }) (compress (map lively vs) R)
  unfolding compress
  kept-rows z [] [] e h = refl
  kept-rows z [] (x ∷ R) e h = absurd (omega arith)
  kept-rows z (v ∷ vs) [] e h = absurd (omega arith)
  kept-rows z (v ∷ vs) (x ∷ R) e h =
      let later = kept-rows z vs R (omega arith) (λ i. h (suc i)) in
      elim (cases_Bool (lively v)) [ inl l ↦ rw l (ap₂ (λ y ys. y ∷ ys) (h 0 l) later) | inr d ↦ rw d later ]

  all-read : {Y : Type 0} (f : Node S V → Y) (d : Y) (xs : List (Node S V)) → All (λ x. f x ≡ d) xs → (i : ℕ) → get_or (map f xs) i d ≡ d
  all-read f d [] h i = refl
  all-read f d (x ∷ xs) h zero = h 0 x (omega arith)
  all-read f d (x ∷ xs) h (suc i) = all-read f d xs (λ k e lt. h (suc k) e (omega arith)) i

  stands-first : (Q : Node S V → Type 0) (xs ys : List (Node S V)) → All (λ x. is_used x ≡ true) xs → All Q ys → Stands Q (length xs) (xs ++ ys)
  stands-first Q xs ys p q a d lt = (
    (λ l. ap is_used (get_or_append_left xs ys d a l) ∙ p a d l),
    (λ ge. rw (get_or-append_right xs ys (length xs) a d refl ge) (q (a - length xs) d (omega (arith, length-append xs ys)))),
  )

module _ {S V : Type 0} (by : Setting S V) (small : by.width < 256) where
  abbrev w : ℕ
  w = by.width

  abbrev z : Node S V
  z = blank_node by.rule by.tally

  bare : Bare z
  bare = bare-from z (bare_counted z.label)

  -- the marks by number are those by place
  record Agree (n : ℕ) (from : List Bool) (fr : List (Option Mark)) : Type 0 where
    many : length fr ≡ n
    to : (a : ℕ) → On from (suc a) → a < n → get_or fr a None ≡ Some tt
    back : (a : ℕ) → get_or fr a None ≡ Some tt → a < w → On from (suc a)

  -- ---- one layer
  module _ (L : Layer) (Ls : Net) (from : List Bool) (fr : List (Option Mark)) (xs : List (Node S V)) (good : Good w (L ∷ Ls)) (arr : map arcs_of (take w xs) ≡ table w (arcs_at L)) (stand : length L ≡ length (nodes_in (take w xs))) (same : Agree (length L) from fr) where
    abbrev us : List (Node S V)
    us = nodes_in (take w xs)

    abbrev fr' : List (Option Mark)
    fr' = marks_next fr L (width Ls)

    abbrev fs : List Bool
    fs = flags fr' (marks_up Ls)

    abbrev gs : List Bool
    gs = flags fr (marks_up (L ∷ Ls))

    abbrev f : ℕ → ℕ → ℕ → ℕ
    f a j b = renumber fs b

    abbrev new : List ℕ
    new = numbers w z (length Ls) (reached_next from us) (drop w xs)

    abbrev vs : List (Node S V)
    vs = renewed-layer w z bare small (length Ls) from xs

    room : w ≤ length xs
    room = omega (arith, arranged-long w L (take w xs) arr, length-take w xs)

    like : (a k : ℕ) → get_or (targets (get_or us a z)) k 0 ≡ get_or (node L a) k 0
    like a k = elim (cases_lt a (length L)) [
      | inr ge ↦ rw (get_or_past L a [] ge, get_or_past us a z (omega arith)) (bare k)
      | inl lt ↦
          ap (λ x. get_or (targets x) k 0) (standing-at (take w xs) a z (omega arith))
          ∙ ap (λ (ts : List ℕ). get_or ts k 0) (targets-arranged w L (take w xs) a z arr (omega (arith, good.1)))
          ∙ elim (cases_lt k 16) [ inl lt ↦ padded-at (node L a) k lt | inr ge ↦ get_or_past (padded_targets (node L a)) k 0 ge ∙ sym (get_or_past (node L a) k 0 (omega (arith, good.0 a))) ]
    ]

    mark-over : (a j b : ℕ) → get_or fr a None ≡ Some tt → target (node L a) j ≡ suc b → get_or fr' b None ≡ Some tt
    mark-over a j b m e = mark-next fr L (width Ls) a j b e m (good.2 a j b e)

    -- a marked node with an arc, found by its number and by its place
    marked : (a k b : ℕ) → On from (suc a) → get_or (targets (get_or us a z)) k 0 ≡ suc b → (target (node L a) (suc k) ≡ suc b) × (get_or fr a None ≡ Some tt)
    marked a k b on e = let e' = sym (like a k) ∙ e in (e', same.to a on (has-arc L a (suc k) b e'))

    source : (a j b : ℕ) → target (node L a) j ≡ suc b → get_or fr a None ≡ Some tt → On from (suc a) × (k : ℕ) × (j ≡ suc k) × (get_or (targets (get_or us a z)) k 0 ≡ suc b)
    source a zero b e m = absurd (omega arith)
    source a (suc k) b e m = (same.back a m (omega (arith, has-arc L a (suc k) b e, good.1)), k, refl, like a k ∙ e)

    marks-agree : Agree (width Ls) (reached_next from us) fr'
    marks-agree = record {
      many = next-long fr L (width Ls);
      to = λ b on lt. (let s = reached-on z from us (suc b) on in let m = marked s.0 s.2 b s.1 s.3 in mark-over s.0 (suc s.2) b m.1 m.0);
      back = λ b m lt. (let s = marked_from fr L (width Ls) b m in let t = source s.0 s.1 b s.2 s.3 in let i = arc-in w z bare small us s.0 t.1 b t.3 in on-reached z from us s.0 t.1 (suc b) (omega arith) t.0 i.0 i.1 t.3);
    }

    module _ (new-is : (b : ℕ) → get_or fr' b None ≡ Some tt → get_or new (suc b) 0 ≡ renumber fs b) where
      sent : (a k : ℕ) → On from (suc a) → get_or (targets (get_or vs a z)) k 0 ≡ get_or new (get_or (node L a) k 0) 0
      sent a k on = renewed-sent w z bare small (length Ls) from xs a k on ∙ ap (λ t. get_or new t 0) (like a k)

      -- a marked node has the arcs that are left
      moved : (a k : ℕ) → On from (suc a) → get_or (targets (get_or vs a z)) k 0 ≡ get_or (node (redirect f L) a) k 0
      moved a k on = sent a k on ∙ go (get_or (node L a) k 0) refl ∙ sym (redirect-get f L a (suc k))
        where
          go : (t : ℕ) → get_or (node L a) k 0 ≡ t → get_or new t 0 ≡ at_door (f a) (suc k) t
          go zero e = numbers-zero w z bare small (length Ls) (reached_next from us) (drop w xs)
          go (suc b) e = new-is b (mark-over a (suc k) b (marked a k b on (like a k ∙ e)).1 e)

      -- a renewed node has arcs exactly if it has a flag
      live : (a : ℕ) → lively (get_or vs a z) ≡ get_or gs a false
      live a = same_from_decides {P = get_or gs a false ≡ true} (lively (get_or vs a z)) (get_or gs a false) (there, back') (λ e. e, λ e. e)
        where
          there : lively (get_or vs a z) ≡ true → get_or gs a false ≡ true
          there l =
              let s = renewed-live w z bare small (length Ls) from xs a l in
              let m = marked a s.1 s.2 s.0 s.3 in
              let g = true_from_ne_false (get_or fs s.2 false) (λ off. s.4 (new-is s.2 (mark-over a (suc s.1) s.2 m.1 m.0) ∙ unfold renumber in rw off)) in
              flags-at fr (marks_up (L ∷ Ls)) a m.1 (climbs L Ls a (suc s.1) s.2 m.0 (flags-back fr' (marks_up Ls) s.2 g).1)

          back' : get_or gs a false ≡ true → lively (get_or vs a z) ≡ true
          back' g =
              let m = flags-back fr (marks_up (L ∷ Ls)) a g in
              let c = climbs-from L Ls a m.1 in
              let s = source a c.0 c.1 c.2 m.0 in
              let n = mark-over a c.0 c.1 m.0 c.2 in
              lively-from (get_or vs a z) s.1 (rank fs c.1)
              (renewed-sent w z bare small (length Ls) from xs a s.1 s.0 ∙ ap (λ t. get_or new t 0) s.3 ∙ new-is c.1 n ∙ renumber-at fs c.1 (flags-at fr' (marks_up Ls) c.1 n c.3))

      flags-many : length gs ≡ length L
      flags-many = flags-long fr (marks_up (L ∷ Ls)) (same.many ∙ sym (ups-long (L ∷ Ls))) ∙ same.many

      vs-many : length vs ≡ length L
      vs-many = long w z bare small (length Ls) from xs ∙ sym stand

      flags-are : map lively vs ≡ gs
      flags-are = ext_get_or false (map lively vs) gs (length-map vs lively ∙ vs-many ∙ sym flags-many) (λ a lt. live-at w z bare small (length Ls) from xs a ∙ live a)

      number-flag : (a : ℕ) → get_or (numbers w z (suc (length Ls)) from xs) (suc a) 0 ≡ renumber gs a
      number-flag a = number-is w z bare small (length Ls) from xs a ∙ ap (λ hs. renumber hs a) flags-are

      -- what is left of the layer
      abbrev M : Layer
      M = compress gs (redirect f L)

      kept-arcs : map arcs_of (filter lively vs) ≡ map (λ nd. record { to = padded_targets nd }) M
      kept-arcs = rw (← flags-are) (kept-rows z vs (redirect f L) (vs-many ∙ sym (redirect-length f L)) (λ i l.
          let on = (renewed-live w z bare small (length Ls) from xs i l).0 in
          ap (λ (ts : List ℕ). record { to = ts })
          (sym (targets_read (get_or vs i z) (live-used w z bare small (length Ls) from xs i l).1) ∙ padded-is (targets (get_or vs i z)) (node (redirect f L) i) (length-targets (get_or vs i z)) (λ k lt. moved i k on))))

      block-many : length (filter lively vs) ≡ length M
      block-many = sym (length-map (filter lively vs) arcs_of) ∙ ap length kept-arcs ∙ length-map M _

      block-arcs : map arcs_of (block w z (length Ls) from xs) ≡ table w (arcs_at M)
      unfolding together
      block-arcs =
          let F = filter lively vs in
          let n = length vs - length F in
          let D = drop (length us) (take w xs) in
          let idle : All (λ x. x.arcs ≡ z.arcs) (replicate n z ++ D) = All-append (λ x. x.arcs ≡ z.arcs) (replicate n z) D (All-replicate (λ x. x.arcs ≡ z.arcs) n z refl) (λ k d lt.
          ap arcs_of (get_or-drop (length us) (take w xs) k d)
          ∙ arcs-arranged w L (take w xs) (length us + k) d arr (omega (arith, length-drop (length us) (take w xs), arranged-long w L (take w xs) arr))
          ∙ ap (λ (nd : Outs). record { to = padded_targets nd }) (get_or_past L (length us + k) [] (omega arith))) in
          table-list w (arcs_at M) (map arcs_of (block w z (length Ls) from xs)) (length-map (block w z (length Ls) from xs) arcs_of ∙ block-long w z (length Ls) from xs room) (λ k d lt.
          get_or_default (map arcs_of (block w z (length Ls) from xs)) k d z.arcs (omega (arith, length-map (block w z (length Ls) from xs) arcs_of, block-long w z (length Ls) from xs room))
          ∙ ap (λ ys. get_or ys k z.arcs) (ap (map arcs_of) (append_assoc F (replicate n z) D) ∙ map-append arcs_of F (replicate n z ++ D))
          ∙ get_or-tail (map arcs_of F) (map arcs_of (replicate n z ++ D)) z.arcs (all-read arcs_of z.arcs (replicate n z ++ D) idle) k
          ∙ ap (λ ys. get_or ys k z.arcs) kept-arcs ∙ get_or-mapped (λ (nd : Outs). record { to = padded_targets nd }) M k [] z.arcs refl)

      block-stands : All (λ x. x.label ≡ z.label) (drop (length us) (take w xs)) → Stands (λ x. x.label ≡ z.label) (length (filter lively vs)) (block w z (length Ls) from xs)
      unfolding together
      block-stands blank =
          let F = filter lively vs in
          let n = length vs - length F in
          rw append_assoc (stands-first (λ x. x.label ≡ z.label) F (replicate n z ++ drop (length us) (take w xs)) (all-used w z bare small (length Ls) from xs)
          (All-append (λ x. x.label ≡ z.label) (replicate n z) (drop (length us) (take w xs)) (All-replicate (λ x. x.label ≡ z.label) n z refl) blank))

  -- ---- all layers
  numbers-are : (Ls : Net) (from : List Bool) (fr : List (Option Mark)) (xs : List (Node S V)) → Good w Ls → Arranged w Ls xs → Standing w Ls xs → Agree (width Ls) from fr
      → (b : ℕ) → get_or fr b None ≡ Some tt → get_or (numbers w z (length Ls) from xs) (suc b) 0 ≡ renumber (flags fr (marks_up Ls)) b
  numbers-are [] from fr xs good arr st same zero m =
      unfold numbers in sym (renumber-at (flags fr (marks_up [])) 0 (flags-at fr (marks_up []) 0 m (unfold marks_up up in refl)) ∙ ap suc (rank-zero (flags fr (marks_up []))))
  numbers-are [] from fr xs good arr st same (suc b) m = absurd (let none = get_or_past fr (suc b) None (omega (arith, same.many)) in cc)
  numbers-are (L ∷ Ls) from fr xs good arr st same b m =
      number-flag L Ls from fr xs good arr.0 st.0 same (numbers-are Ls (reached_next from (nodes_in (take w xs))) (marks_next fr L (width Ls)) (drop w xs) good.3 arr.1 st.1 (marks-agree L Ls from fr xs good arr.0 st.0 same)) b

  tidied-from : (Ls : Net) (from : List Bool) (fr : List (Option Mark)) (xs : List (Node S V)) → Good w Ls → Arranged w Ls xs → Standing w Ls xs → Agree (width Ls) from fr
      → Arranged w (tidy fr Ls) (tidied w z (length Ls) from xs) × (Blanks w z (length Ls) xs → Ready by (tidy fr Ls) (tidied w z (length Ls) from xs))
  unfolding tidy
  tidied-from [] from fr xs good arr st same = (unfold tidied in arr, λ blank. tt)
  tidied-from (L ∷ Ls) from fr xs good arr st same =
      let next = reached_next from (nodes_in (take w xs)) in
      let agree = marks-agree L Ls from fr xs good arr.0 st.0 same in
      let are = numbers-are Ls next (marks_next fr L (width Ls)) (drop w xs) good.3 arr.1 st.1 agree in
      let rest = tidied-from Ls next (marks_next fr L (width Ls)) (drop w xs) good.3 arr.1 st.1 agree in
      let h = room L Ls from fr xs good arr.0 st.0 same in
      rw (front w z (length Ls) from xs h, back w z (length Ls) from xs h) (
        (block-arcs L Ls from fr xs good arr.0 st.0 same are, rest.0),
        λ blank. ((length (filter lively (renewed-layer w z bare small (length Ls) from xs)), omega (arith, block-many L Ls from fr xs good arr.0 st.0 same are), block-stands L Ls from fr xs good arr.0 st.0 same are blank.0), rest.1 blank.1),
      )

-- the whole list, in which the first node alone is reached: its layer keeps that node
pub tidied-net : {S V : Type 0} (by : Setting S V) (n : ℕ) (Ls : Net) (xs : List (Node S V)) → by.width ≤ 128 → length Ls ≡ n → width Ls ≡ 1 → Good by.width Ls → Arranged by.width Ls xs → Standing by.width Ls xs
    → Arranged by.width (tidied_arcs Ls) (tidied by.width (blank_node by.rule by.tally) n first_mark xs)
    × (Blanks by.width (blank_node by.rule by.tally) n xs → Ready by (tidied_arcs Ls) (tidied by.width (blank_node by.rule by.tally) n first_mark xs))
unfolding tidied_arcs tidy
tidied-net by n [] xs le deep one good arr st = rw (← deep) (unfold tidied in arr, λ blank. tt)
tidied-net by n (L ∷ Ls) xs le deep one good arr st =
    let small : by.width < 256 = omega arith in
    let w = by.width in
    let fr : List (Option Mark) = Some tt ∷ [] in
    let same : Agree by small (length L) first_mark fr = record { many = sym one; to = λ a on lt. rw (first-on a on); back = λ a e lt. first-back a e } in
    let next = reached_next first_mark (nodes_in (take w xs)) in
    let are = numbers-are by small Ls next (marks_next fr L (width Ls)) (drop w xs) good.3 arr.1 st.1 (marks-agree by small L Ls first_mark fr xs good arr.0 st.0 same) in
    let z = blank_node by.rule by.tally in
    let vs = renewed-layer w z (bare by small) small (length Ls) first_mark xs in
    let RL = redirect (λ a j b. renumber (flags (marks_next fr L (width Ls)) (marks_up Ls)) b) L in
    let none : get_or (flags fr (marks_up (L ∷ Ls))) 0 false ≡ false → arcs_at RL 0 ≡ arcs_at [] 0 = λ off. ap (λ (ts : List ℕ). record { to = ts }) (sym (padded-is (padded_targets []) (node RL 0) refl (λ k lt.
    padded-at [] k lt ∙ sym (bare-from (get_or vs 0 z) (lively-none (get_or vs 0 z) (live by small L Ls first_mark fr xs good arr.0 st.0 same are 0 ∙ off)) k) ∙ moved by small L Ls first_mark fr xs good arr.0 st.0 same are 0 k refl))) in
    let row = one-row w (flags fr (marks_up (L ∷ Ls))) RL (flags-many by small L Ls first_mark fr xs good arr.0 st.0 same are ∙ one) (redirect-length _ L ∙ one) none in
    let all = tidied-from by small (L ∷ Ls) first_mark fr xs good arr st same in
    rw (← deep) ((all.0.0 ∙ row.0, all.0.1), λ blank. let r = all.1 blank in ((r.0.0, omega (arith, r.0.1, row.1), r.0.2), r.1))
  where
    first-back : (a : ℕ) → get_or {A = Option Mark} (Some tt ∷ []) a None ≡ Some tt → On first_mark (suc a)
    first-back zero e = refl
    first-back (suc a) e = absurd cc
