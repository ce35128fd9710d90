-- In-arcs listed: where they come from, what they bring, and how they are found in the list
use Rattle.std.proofs.Common.{◌≡◌, ℕ, zero, suc, ◌+◌, ◌<◌, ◌≤◌, Bool, true, false, cond, not, eqb, ◌≢◌, List, [], ◌∷◌, ◌++◌, length, min, get_or, set, take, drop, Some, sym, refl, ap, ◌∙◌, ap₂, zero-add, arith}
use Rattle.std.specs.List.{All, range_with_len, flat_map}
use Rattle.std.proofs.lemmas.Bool.{cases_eq, eqb-true, eqb-false, eq-eqb, ne_eqb}
use Rattle.std.proofs.lemmas.Grind.{flat_map-append, get_or-set_at}
use Rattle.std.proofs.lemmas.List.{drop_more, get_or-set_other, get_or_push, get_or_append_left, length_push}
use Rattle.std.proofs.lemmas.List.Elements.{All-head, All-tail}
use Rattle.layers.specs.declared.node.Node.{Node}
use Rattle.layers.specs.declared.node.Label.{Label}
use Rattle.layers.specs.declared.node.Down.{Down}
use Rattle.layers.specs.Flow.{put, arrivals_by_door}
use Rattle.layers.specs.Labels.{agree, agrees_with_all, all_agree, arrival_over, first_arrival}
use Rattle.layers.specs.Settings.{Setting}
use Rattle.labels.specs.Passes.{by_door, from_node, arrivals}
use Rattle.labels.proofs.Inward.{doors-in}
use Rattle.split.specs.declared.listing.InArc.{InArc}
use Rattle.split.specs.declared.listing.InArcs.{InArcs}
use Rattle.split.specs.Listed.{Told, told_doors, told_node, told_from, IsAt, IsTold, Lists, IsListed, leaves, all_stay}

pub not-not : (p : Bool) → not (not p) ≡ p
not-not p = grind arith

-- ---- starts: once that of node t is v if it was later
pub early_set : (starts to : List ℕ) (n t v : ℕ) → t < length starts → ((i : ℕ) → i < n → (get_or to i 0 ≡ t → i < v) → get_or starts (get_or to i 0) 0 ≤ i) → (i : ℕ) → i < n → get_or (set starts t (min (get_or starts t 0) v)) (get_or to i 0) 0 ≤ i
early_set starts to n t v lt early i h =
    let s = get_or to i 0 in
    grind (arith, cases_eq s t, get_or-set_at starts t s (min (get_or starts t 0) v) 0, get_or-set_other starts t s (min (get_or starts t 0) v) 0, early i h)

module _ {S V : Type 0} where
  pub doors-some : (a : ℕ) (l : Label S V) (k t : ℕ) (ts : List ℕ) → t ≢ 0 → told_doors a l k (t ∷ ts) ≡ record { arc = record { place = a; door = k }; to = t; label = l } ∷ told_doors a l (k + 1) ts
  doors-some a l k zero ts some = absurd (some refl)
  doors-some a l k (suc b) ts some = refl

  -- ---- one in-arc more
  module _ (us : List (Node S V)) (list : InArcs) (told : List (Told S V)) (x : Told S V) (arcs : list.many < length list.arcs) (to : list.many < length list.to) where
    abbrev next : InArcs
    next = record list { arcs = set list.arcs list.many x.arc; to = set list.to list.many x.to; many = list.many + 1 }

    pub told-push : x.arc.place < length us → x.arc.door < 16 → eqb x.label.down.lasts 0 ≡ false → ((z : Node S V) → (get_or us x.arc.place z).label ≡ x.label) → IsTold us list told → IsTold us next (told ++ x ∷ [])
    told-push place door used label t = record { many = omega (arith, t.many, length_push told x); at = λ i lt. go i lt (eqb i list.many) refl }
      where
        go : (i : ℕ) → i < list.many + 1 → (q : Bool) → eqb i list.many ≡ q → IsAt us next.arcs next.to (told ++ x ∷ []) i
        go i lt true e =
            let is = eqb-true i list.many e in
            record {
              x = x;
              is = λ d. get_or_push told x d i (omega (arith, t.many, is));
              arc = λ d. get_or-set_at list.arcs list.many i x.arc d is arcs;
              to = get_or-set_at list.to list.many i x.to 0 is to;
              place = place;
              door = door;
              used = used;
              label = label;
            }
        go i lt false e =
            let ne = eqb-false i list.many e in
            let h = t.at i (omega (arith, ne)) in
            record {
              x = h.x;
              is = λ d. get_or_append_left told (x ∷ []) d i (omega (arith, t.many, ne)) ∙ h.is d;
              arc = λ d. get_or-set_other list.arcs list.many i x.arc d ne ∙ h.arc d;
              to = get_or-set_other list.to list.many i x.to 0 ne ∙ h.to;
              place = h.place;
              door = h.door;
              used = h.used;
              label = h.label;
            }

  -- ---- of one in the list
  abbrev pub some_record : Told S V → Node S V
  some_record x = record { arcs = record { to = [] }; label = x.label }

  module _ {us : List (Node S V)} {arcs : List InArc} {to : List ℕ} {told : List (Told S V)} {m : ℕ} (h : IsAt us arcs to told m) (stays : Label S V → ℕ → Bool) (t : ℕ) where
    -- whether it leads to node t and stays not
    pub leaves-here : (n : InArc) (z : Node S V) → h.x.to ≡ t → leaves stays t h.x ≡ not (stays (get_or us (get_or arcs m n).place z).label ((get_or arcs m n).door + 1))
    leaves-here n z e = rw (h.arc n, h.label z, eq-eqb h.x.to t e) refl

    pub other-here : h.x.to ≢ t → leaves stays t h.x ≡ false
    other-here ne = rw (ne_eqb h.x.to t ne) refl

  -- none before the start of node t leads to it
  pub not-yet : {us vs : List (Node S V)} {list : InArcs} → Lists us vs list → (t i : ℕ) (d : Told S V) → i < get_or list.starts t 0 → i < length (told_from 0 vs) → (get_or (told_from 0 vs) i d).to ≢ t
  not-yet l t i d lt within e =
      let h = l.told.at i (omega (arith, l.told.many)) in
      let early = rw (h.to ∙ ap (λ (x : Told S V). x.to) (sym (h.is d)) ∙ e) at (l.early i (omega (arith, l.told.many))) in
      omega arith

  pub stay-none : (stays : Label S V → ℕ → Bool) (t n : ℕ) (xs : List (Told S V)) → ((i : ℕ) (d : Told S V) → i < n → i < length xs → (get_or xs i d).to ≢ t) → all_stay stays t (take n xs) ≡ true
  stay-none stays t zero xs none = refl
  stay-none stays t (suc n) [] none = refl
  stay-none stays t (suc n) (x ∷ xs) none = rw (ne_eqb x.to t (none 0 x (omega arith) (omega arith))) (stay-none stays t n xs (λ i d lt within. none (suc i) d (omega arith) (omega arith)))

  -- ---- what those bring that lead to node t
  module _ (by : Setting S V) (t : ℕ) where
    abbrev pub brings : Told S V → List (Down S V)
    brings x = cond (eqb x.to t) (arrival_over by x.label.down (x.arc.door + 1) ∷ []) []

    pub brings-none : (n : ℕ) (xs : List (Told S V)) → ((i : ℕ) (d : Told S V) → i < n → i < length xs → (get_or xs i d).to ≢ t) → flat_map brings (drop n xs) ≡ flat_map brings xs
    brings-none zero xs none = refl
    brings-none (suc n) [] none = refl
    brings-none (suc n) (x ∷ xs) none = rw (ne_eqb x.to t (none 0 x (omega arith) (omega arith))) (brings-none n xs (λ i d lt within. none (suc i) d (omega arith) (omega arith)))

  -- those by the doors of one record
  brings-doors : (by : Setting S V) (b a k j : ℕ) (l : Label S V) (ts : List ℕ) → j ≡ k + 1 → flat_map (brings by (suc b)) (told_doors a l k ts) ≡ arrivals_by_door (arrival_over by) b l.down j ts
  unfolding arrivals_by_door
  brings-doors by b a k j l [] e = refl
  brings-doors by b a k j l (zero ∷ ts) e = rw (ne_eqb 0 (suc b) (omega arith)) (brings-doors by b a (k + 1) (suc j) l ts (omega arith))
  brings-doors by b a k j l (suc c ∷ ts) e = go (eqb (suc c) (suc b)) (brings-doors by b a (k + 1) (suc j) l ts (omega arith))
    where
      go : (q : Bool) → flat_map (brings by (suc b)) (told_doors a l (k + 1) ts) ≡ arrivals_by_door (arrival_over by) b l.down (suc j) ts → (cond q (arrival_over by l.down (k + 1) ∷ []) [] ++ flat_map (brings by (suc b)) (told_doors a l (k + 1) ts)) ≡ put q (arrival_over by l.down j) (arrivals_by_door (arrival_over by) b l.down (suc j) ts)
      go true rest = ap₂ (λ (i : ℕ) ys. arrival_over by l.down i ∷ ys) (sym e) rest
      go false rest = rest

  brings-node : (by : Setting S V) (b a : ℕ) (u : Node S V) → length u.arcs.to ≡ 16 → from_node by (suc b) u ≡ flat_map (brings by (suc b)) (told_node a u)
  unfolding from_node by_door
  brings-node by b a u long = go (eqb u.label.down.lasts 0)
    where
      go : (q : Bool) → cond q [] (flat_map (by_door by (suc b) u) (range_with_len 0 16)) ≡ flat_map (brings by (suc b)) (cond q [] (told_doors a u.label 0 u.arcs.to))
      go true = refl
      go false = doors-in by b u.label.down u.arcs.to u.arcs.to 0 16 (omega (arith, long)) (λ i lt. ap (λ (k : ℕ). get_or u.arcs.to k 0) (zero-add i)) ∙ sym (brings-doors by b a 0 1 u.label u.arcs.to refl)

  arrivals-told : (by : Setting S V) (b a : ℕ) (us : List (Node S V)) → All (λ u. length u.arcs.to ≡ 16) us → arrivals by (suc b) us ≡ flat_map (brings by (suc b)) (told_from a us)
  unfolding told_from
  arrivals-told by b a [] wide = refl
  arrivals-told by b a (u ∷ us) wide =
      ap₂ (λ ys zs. ys ++ zs) (brings-node by b a u (All-head (λ v. length v.arcs.to ≡ 16) u us wide)) (arrivals-told by b (a + 1) us (All-tail (λ v. length v.arcs.to ≡ 16) u us wide))
      ∙ sym (flat_map-append (brings by (suc b)) (told_node a u) (told_from (a + 1) us))

  pub arrivals-listed : (by : Setting S V) (t : ℕ) → 1 ≤ t → (us : List (Node S V)) → All (λ u. length u.arcs.to ≡ 16) us → arrivals by t us ≡ flat_map (brings by t) (told_from 0 us)
  arrivals-listed by zero one us wide = absurd (omega arith)
  arrivals-listed by (suc b) one us wide = arrivals-told by b 0 us wide

  -- the next of the list
  pub brings-next : {us vs : List (Node S V)} {list : InArcs} (l : Lists us vs list) (by : Setting S V) (t m : ℕ) (lt : m < list.many) → flat_map (brings by t) (drop m (told_from 0 vs)) ≡ brings by t (l.told.at m lt).x ++ flat_map (brings by t) (drop (m + 1) (told_from 0 vs))
  brings-next {us} {vs} l by t m lt =
      let h = l.told.at m lt in
      ap (flat_map (brings by t)) (drop_more (told_from 0 vs) m h.x (omega (arith, l.told.many))) ∙ ap (λ x. brings by t x ++ flat_map (brings by t) (drop (m + 1) (told_from 0 vs))) (h.is h.x)

  -- ---- all agree with the first
  module _ (by : Setting S V) (self : (s : S) → by.rule.same s s ≡ true) (stays : Label S V → ℕ → Bool) (y : Down S V) (kept : (u : Label S V) (j : ℕ) → stays u j ≡ agree by.rule y (arrival_over by u.down j)) where
    stay-each : (t : ℕ) (xs : List (Told S V)) → all_stay stays t xs ≡ agrees_with_all by.rule y (flat_map (brings by t) xs)
    unfolding agrees_with_all
    stay-each t [] = refl
    stay-each t (x ∷ xs) = grind (arith, kept x.label (x.arc.door + 1), stay-each t xs)

    stay-self : agree by.rule y y ≡ true
    unfolding agree
    stay-self = rw (eq-eqb y.all y.all refl, eq-eqb y.some y.some refl, eq-eqb y.finish y.finish refl, eq-eqb y.lasts y.lasts refl) (self y.state)

    stay-first : (ys : List (Down S V)) → Some y ≡ first_arrival ys → agrees_with_all by.rule y ys ≡ all_agree by.rule ys
    unfolding agrees_with_all all_agree
    stay-first [] e = absurd (grind arith)
    stay-first (x ∷ ys) e = let same : x ≡ y = cc in rw (same, stay-self) refl

    pub stay-alike : (t : ℕ) → 1 ≤ t → (us : List (Node S V)) → All (λ u. length u.arcs.to ≡ 16) us → Some y ≡ first_arrival (arrivals by t us) → all_stay stays t (told_from 0 us) ≡ all_agree by.rule (arrivals by t us)
    stay-alike t one us wide e = stay-each t (told_from 0 us) ∙ ap (agrees_with_all by.rule y) (sym (arrivals-listed by t one us wide)) ∙ stay-first (arrivals by t us) e

  -- ---- for the loops over a list
  pub place_in : (us : List (Node S V)) (list : InArcs) (m : ℕ) (n : InArc) → IsListed us list → m < list.many → (get_or list.arcs m n).place < length us
  place_in us list m n l lt = let h = l.told.at m lt in rw (h.arc n) h.place

  pub door_in : (us : List (Node S V)) (list : InArcs) (m : ℕ) (n : InArc) → IsListed us list → m < list.many → (get_or list.arcs m n).door < 16
  door_in us list m n l lt = let h = l.told.at m lt in rw (h.arc n) h.door
