-- In-arcs that go to a new node, in the list; and the list written back
use Rattle.std.proofs.Common.{◌≡◌, ℕ, zero, suc, ◌+◌, ◌<◌, ◌≤◌, ◌≢◌, Bool, true, false, cond, not, ◌&&◌, ◌||◌, ltb, eqb, List, [], ◌∷◌, ◌++◌, map, length, get_or, take, drop, min, set, fold, append_assoc, sym, refl, ap, ◌∙◌, subst, ap₂, add-one, arith}
use Rattle.std.specs.List.{All, range_with_len}
use Rattle.std.proofs.Math.Dec.{eqb-suc-suc}
use Rattle.std.proofs.lemmas.Bool.{cases_eq, cond_both, ltb-true, lt-ltb}
use Rattle.std.proofs.lemmas.Bool.Decides.{nat_tests}
use Rattle.std.proofs.lemmas.Grind.{get_or-set_at}
use Rattle.std.proofs.lemmas.List.{get_or-set_other, length-set, map-append, map-id, set_at, get_or-map, length-map, length_push, get_or-take, length-take, take_all}
use Rattle.std.proofs.lemmas.List.Elements.{All-head, All-map, All-tail}
use Rattle.std.proofs.lemmas.List.Sums.{AllPass-from_list_all, fold-append, fold_more}
use Rattle.layers.specs.declared.node.Node.{Node}
use Rattle.layers.specs.declared.node.Label.{Label}
use Rattle.layers.specs.Net.{each_door}
use Rattle.layers.specs.Targets.{targets, with_targets, at_door, redirected}
use Rattle.layers.proofs.Tied.{each_door-length}
use Rattle.labels.proofs.Folds.{folded_counting}
use Rattle.split.specs.declared.listing.InArc.{InArc}
use Rattle.split.specs.declared.listing.InArcs.{InArcs}
use Rattle.split.proofs.InArcs.{doors-some, early_set}
use Rattle.split.proofs.Joins.{all-targets}
use Rattle.split.specs.Listed.{Told, told_doors, told_node, told_from, put_arc, put_at, written, kept_arc, husk, Lists, IsListed, leaves, all_stay}
use Rattle.split.specs.Parted.{or_unused, parted_to, parted_node}

-- ---- parted
module _ {S V : Type 0} (stays : Label S V → ℕ → Bool) (a m : ℕ) where
  abbrev P : Node S V → Node S V
  P = parted_node (or_unused stays) a m

  -- the arc by door j to place b of a record with the label l
  abbrev to : Label S V → ℕ → ℕ → ℕ
  to = parted_to (or_unused stays) a m

  abbrev pub renumbered : Told S V → Told S V
  renumbered x = record { arc = x.arc; to = at_door (to x.label) (x.arc.door + 1) x.to; label = x.label }

  to-some : (l : Label S V) (j b : ℕ) → to l j b ≢ 0
  unfolding parted_to
  to-some l j b = grind arith

  parted-is : (u : Node S V) → length u.arcs.to ≡ 16 → P u ≡ with_targets u (each_door (to u.label) 1 u.arcs.to)
  unfolding parted_node redirected
  parted-is u long = ap (λ ts. with_targets u (each_door (to u.label) 1 ts)) (sym (all-targets u long))

  doors-renumbered : (p k j : ℕ) (l : Label S V) (ts : List ℕ) → j ≡ k + 1 → told_doors p l k (each_door (to l) j ts) ≡ map renumbered (told_doors p l k ts)
  unfolding each_door
  doors-renumbered p k j l [] e = refl
  doors-renumbered p k j l (zero ∷ ts) e = doors-renumbered p (k + 1) (suc j) l ts (omega arith)
  doors-renumbered p k j l (suc b ∷ ts) e =
      doors-some p l k (to l j b) (each_door (to l) (suc j) ts) (to-some l j b)
      ∙ ap₂ (λ (i : ℕ) xs. record { arc = record { place = p; door = k }; to = to l i b; label = l } ∷ xs) e (doors-renumbered p (k + 1) (suc j) l ts (omega arith))

  pub told-parted : (p : ℕ) (us : List (Node S V)) → All (λ v. length v.arcs.to ≡ 16) us → told_from p (map P us) ≡ map renumbered (told_from p us)
  unfolding told_from
  told-parted p [] wide = refl
  told-parted p (u ∷ us) wide =
      ap₂ (λ xs ys. xs ++ ys) (ap (told_node p) (parted-is u (All-head (λ v. length v.arcs.to ≡ 16) u us wide)) ∙ go (eqb u.label.down.lasts 0)) (told-parted (p + 1) us (All-tail (λ v. length v.arcs.to ≡ 16) u us wide))
      ∙ sym (map-append renumbered (told_node p u) (told_from (p + 1) us))
    where
      go : (q : Bool) → cond q [] (told_doors p u.label 0 (each_door (to u.label) 1 u.arcs.to)) ≡ map renumbered (cond q [] (told_doors p u.label 0 u.arcs.to))
      go true = refl
      go false = doors-renumbered p 0 1 u.label u.arcs.to refl

  -- and what is left of the records
  doors-kept : (l : Label S V) (j : ℕ) (ts : List ℕ) → map (kept_arc (eqb l.down.lasts 0)) (each_door (to l) j ts) ≡ map (kept_arc (eqb l.down.lasts 0)) ts
  unfolding each_door parted_to
  doors-kept l j [] = refl
  doors-kept l j (zero ∷ ts) = ap (λ us. kept_arc (eqb l.down.lasts 0) 0 ∷ us) (doors-kept l (suc j) ts)
  doors-kept l j (suc b ∷ ts) = ap₂ (λ t us. t ∷ us) (go (eqb l.down.lasts 0) (eqb b a) (stays l j)) (doors-kept l (suc j) ts)
    where
      go : (q r s : Bool) → kept_arc q (cond (r && not (q || s)) (suc m) (suc b)) ≡ kept_arc q (suc b)
      go q r s = grind arith

  pub husks-parted : (us : List (Node S V)) → All (λ v. length v.arcs.to ≡ 16) us → map husk (map P us) ≡ map husk us
  husks-parted [] wide = refl
  husks-parted (u ∷ us) wide =
      ap₂ (λ x xs. x ∷ xs) (ap husk (parted-is u (All-head (λ v. length v.arcs.to ≡ 16) u us wide)) ∙ ap (λ ts. (u.label, ts)) (doors-kept u.label 1 u.arcs.to)) (husks-parted us (All-tail (λ v. length v.arcs.to ≡ 16) u us wide))

  wide-parted : (us : List (Node S V)) → All (λ v. length v.arcs.to ≡ 16) (map P us)
  unfolding parted_node redirected targets each_door
  wide-parted us = All-map (λ v. length v.arcs.to ≡ 16) P us (λ k d lt. each_door-length (to (get_or us k d).label) 1 (targets (get_or us k d)))

  pub renumbered-there : (x : Told S V) → eqb x.label.down.lasts 0 ≡ false → (q : Bool) → leaves stays (suc a) x ≡ q → (renumbered x).to ≡ cond q (suc m) x.to
  unfolding parted_to
  renumbered-there x used q e = go x.to e
    where
      go : (t : ℕ) → (eqb t (suc a) && not (stays x.label (x.arc.door + 1))) ≡ q → at_door (to x.label) (x.arc.door + 1) t ≡ cond q (suc m) t
      go zero f = grind (arith, f)
      go (suc b) f = rw (used, ← eqb-suc-suc b a, f) refl

  -- the first of a list stay
  pub stays-there : (xs : List (Told S V)) (n i : ℕ) (d : Told S V) → all_stay stays (suc a) (take n xs) ≡ true → i < n → i < length xs → leaves stays (suc a) (get_or xs i d) ≡ false
  stays-there xs n i d all lt within =
      let p = λ (x : Told S V). not (leaves stays (suc a) x) in
      let e : get_or (take n xs) i d ≡ get_or xs i d = get_or-take n xs i d lt in
      let pass : p (get_or (take n xs) i d) ≡ true = AllPass-from_list_all p (take n xs) all i d (omega (arith, length-take n xs)) in
      grind (arith, pass, e)

-- ---- written back
-- targets that are the same arcs, written over one another door by door
abbrev put_door : {S V : Type 0} → List ℕ → Told S V → List ℕ
put_door ts x = set ts x.arc.door x.to

doors-written : {S V : Type 0} (a k : ℕ) (l : Label S V) (pre ts ss : List ℕ) → length pre ≡ k → map (kept_arc false) ss ≡ map (kept_arc false) ts → fold put_door (pre ++ ts) (told_doors a l k ss) ≡ pre ++ ss
doors-written a k l pre [] [] e same = refl
doors-written a k l pre [] (s ∷ ss) e same = absurd (omega (arith, ap length same))
doors-written a k l pre (t ∷ ts) [] e same = absurd (omega (arith, ap length same))
doors-written a k l pre (zero ∷ ts) (zero ∷ ss) e same =
    ap (λ ws. fold put_door ws (told_doors a l (k + 1) ss)) (sym (append_assoc pre (0 ∷ []) ts))
    ∙ doors-written a (k + 1) l (pre ++ 0 ∷ []) ts ss (omega (arith, length_push pre 0)) (ap (drop 1) same) ∙ append_assoc pre (0 ∷ []) ss
doors-written a k l pre (zero ∷ ts) (suc c ∷ ss) e same = absurd (omega (arith, ap (λ us. get_or us 0 0) same))
doors-written a k l pre (suc b ∷ ts) (zero ∷ ss) e same = absurd (omega (arith, ap (λ us. get_or us 0 0) same))
doors-written a k l pre (suc b ∷ ts) (suc c ∷ ss) e same =
    ap (λ ws. fold put_door ws (told_doors a l (k + 1) ss)) (set_at pre (suc b) ts (suc c) k e ∙ sym (append_assoc pre (suc c ∷ []) ts))
    ∙ doors-written a (k + 1) l (pre ++ suc c ∷ []) ts ss (omega (arith, length_push pre (suc c))) (ap (drop 1) same) ∙ append_assoc pre (suc c ∷ []) ss

module _ {S V : Type 0} where
  abbrev put_told : List (Node S V) → Told S V → List (Node S V)
  put_told vs x = put_arc x.arc.place x.arc.door x.to vs

  put-at : (pre us : List (Node S V)) (u : Node S V) (k t : ℕ) → put_arc (length pre) k t (pre ++ u ∷ us) ≡ pre ++ with_targets u (set u.arcs.to k t) ∷ us
  put-at [] us u k t = refl
  put-at (x ∷ pre) us u k t = ap (λ ys. x ∷ ys) (put-at pre us u k t)

  doors-put : (pre us : List (Node S V)) (u : Node S V) (l : Label S V) (k : ℕ) (ss : List ℕ) → fold put_told (pre ++ u ∷ us) (told_doors (length pre) l k ss) ≡ pre ++ with_targets u (fold put_door u.arcs.to (told_doors (length pre) l k ss)) ∷ us
  doors-put pre us u l k [] = refl
  doors-put pre us u l k (zero ∷ ss) = doors-put pre us u l (k + 1) ss
  doors-put pre us u l k (suc c ∷ ss) = ap (λ ws. fold put_told ws (told_doors (length pre) l (k + 1) ss)) (put-at pre us u k (suc c)) ∙ doors-put pre us (with_targets u (set u.arcs.to k (suc c))) l (k + 1) ss

  -- v has the label of u, and the same arcs to other targets
  node-written : (pre us : List (Node S V)) (u v : Node S V) → husk v ≡ husk u → fold put_told (pre ++ u ∷ us) (told_node (length pre) v) ≡ pre ++ v ∷ us
  node-written pre us u v same =
      let e : u.label ≡ v.label = sym (ap (λ (h : Label S V × List ℕ). h.0) same) in
      ap (λ (l : Label S V). fold put_told (pre ++ record { arcs = u.arcs; label = l } ∷ us) (told_node (length pre) v)) e
      ∙ go (eqb v.label.down.lasts 0) (ap (λ (h : Label S V × List ℕ). h.1) same ∙ ap (λ (l : Label S V). map (kept_arc (eqb l.down.lasts 0)) u.arcs.to) e)
    where
      go : (q : Bool) → map (kept_arc q) v.arcs.to ≡ map (kept_arc q) u.arcs.to → fold put_told (pre ++ record { arcs = u.arcs; label = v.label } ∷ us) (cond q [] (told_doors (length pre) v.label 0 v.arcs.to)) ≡ pre ++ v ∷ us
      go true f = ap (λ ts. pre ++ with_targets v ts ∷ us) (sym (map-id u.arcs.to) ∙ sym f ∙ map-id v.arcs.to)
      go false f = doors-put pre us (record { arcs = u.arcs; label = v.label }) v.label 0 v.arcs.to ∙ ap (λ ts. pre ++ with_targets v ts ∷ us) (doors-written (length pre) 0 v.label [] u.arcs.to v.arcs.to refl f)

  all-written : (pre us vs : List (Node S V)) → map husk vs ≡ map husk us → fold put_told (pre ++ us) (told_from (length pre) vs) ≡ pre ++ vs
  unfolding told_from
  all-written pre [] [] same = refl
  all-written pre [] (v ∷ vs) same = absurd (omega (arith, ap length same))
  all-written pre (u ∷ us) [] same = absurd (omega (arith, ap length same))
  all-written pre (u ∷ us) (v ∷ vs) same =
      fold-append put_told (pre ++ u ∷ us) (told_node (length pre) v) (told_from (length pre + 1) vs)
      ∙ ap₂ (λ ws (k : ℕ). fold put_told ws (told_from k vs)) (node-written pre us u v (ap (λ hs. get_or hs 0 (husk u)) same) ∙ sym (append_assoc pre (v ∷ []) us)) (sym (length_push pre v))
      ∙ all-written (pre ++ v ∷ []) us vs (ap (drop 1) same) ∙ append_assoc pre (v ∷ []) vs

  -- the first n of the list written back
  part-written : {us vs : List (Node S V)} {list : InArcs} → Lists us vs list → (n : ℕ) → n ≤ list.many → fold (put_at list) us (range_with_len 0 n) ≡ fold put_told us (take n (told_from 0 vs))
  part-written l zero le = refl
  part-written {us} {vs} {list} l (suc n) le =
      let h = l.told.at n (omega arith) in
      let ws = fold put_told us (take n (told_from 0 vs)) in
      subst (λ (k : ℕ). fold (put_at list) us (range_with_len 0 k) ≡ fold put_told us (take k (told_from 0 vs))) (add-one n)
      (folded_counting (put_at list) us n ∙ ap (λ zs. put_at list zs n) (part-written l n (omega arith))
      ∙ ap₂ (λ (y : InArc) (t : ℕ). put_arc y.place y.door t ws) (h.arc (record { place = 0; door = 0 })) h.to ∙ ap (put_told ws) (sym (h.is h.x))
      ∙ sym (fold_more put_told us (told_from 0 vs) n h.x (omega (arith, l.told.many))))

  pub written-back : (us vs : List (Node S V)) (list : InArcs) → Lists us vs list → written us list ≡ vs
  unfolding written
  written-back us vs list l = part-written l list.many (omega arith) ∙ ap (fold put_told us) (take_all list.many (told_from 0 vs) (omega (arith, l.told.many))) ∙ all-written [] us vs l.husks

  pub listed-back : (us vs : List (Node S V)) (list : InArcs) → Lists us vs list → IsListed us list
  listed-back us vs list l = subst (λ ws. Lists us ws list) (sym (written-back us vs list l)) l

  pub put_set : (us : List (Node S V)) (p k t : ℕ) (z : Node S V) → set us p (with_targets (get_or us p z) (set (get_or us p z).arcs.to k t)) ≡ put_arc p k t us
  put_set [] p k t z = refl
  put_set (u ∷ us) zero k t z = refl
  put_set (u ∷ us) (suc p) k t z = ap (λ ys. u ∷ ys) (put_set us p k t z)

  -- the targets T, once the in-arcs before the m-th are looked at
  module _ (stays : Label S V → ℕ → Bool) (a n : ℕ) (us : List (Node S V)) (list : InArcs) where
    abbrev pub IsSent : ℕ → List ℕ → Type 0
    IsSent m T = (length T ≡ 2048) × ((i : ℕ) (d : Told S V) → i < list.many → (let x = get_or (told_from 0 (written us list)) i d in get_or T i 0 ≡ cond (ltb i m) (renumbered stays a n x).to x.to))

    module _ (l : IsListed us list) where
      pub sent-first : (from : ℕ) → length list.to ≡ 2048 → all_stay stays (suc a) (take from (told_from 0 (written us list))) ≡ true → IsSent from list.to
      sent-first from long first = (
        long,
        λ i d lt.
            let h = l.told.at i lt in
            let x = get_or (told_from 0 (written us list)) i d in
            let used : eqb x.label.down.lasts 0 ≡ false = rw (h.is d) h.used in
            cond_both (ltb i from) (renumbered stays a n x).to x.to (λ t. get_or list.to i 0 ≡ t)
            (λ e. h.to ∙ ap (λ (y : Told S V). y.to) (sym (h.is d)) ∙ sym (renumbered-there stays a n x used false (stays-there stays a n (told_from 0 (written us list)) from i d first (ltb-true i from e) (omega (arith, l.told.many)))))
            (λ e. h.to ∙ ap (λ (y : Told S V). y.to) (sym (h.is d))),
      )

      pub sent-next : (m : ℕ) (T T' : List ℕ) (v : ℕ) (lt : m < list.many) → T' ≡ set T m v → v ≡ (renumbered stays a n (l.told.at m lt).x).to → IsSent m T → IsSent (m + 1) T'
      sent-next m T T' v lt is val g = (
        ap (λ (xs : List ℕ). length xs) is ∙ length-set T m v ∙ g.0,
        λ i d il. ap (λ xs. get_or xs i 0) is ∙ grind (arith, nat_tests, cases_eq i m, get_or-set_at T m i v 0, get_or-set_other T m i v 0, g.0, l.few, g.1 i d il, val, (l.told.at m lt).is d),
      )

      -- all of them
      pub divided : (from m : ℕ) (T : List ℕ) → IsSent m T → list.many ≤ m → suc n < length list.starts → all_stay stays (suc a) (take from (told_from 0 (written us list))) ≡ true
          → Lists us (map (parted_node (or_unused stays) a n) (written us list)) (record list { to = T; starts = set list.starts (suc n) (min (get_or list.starts (suc n) 0) from) })
      divided from m T g past big first =
          let ren = renumbered stays a n in
          let told = told_from 0 (written us list) in
          let next = told-parted stays a n 0 (written us list) l.wide in
          record {
            told = record {
              many = l.told.many ∙ sym (length-map told ren) ∙ ap length (sym next);
              at = λ i lt.
                  let h = l.told.at i lt in
                  record {
                    x = ren h.x;
                    is = λ d. ap (λ xs. get_or xs i d) next ∙ get_or-map ren told i d d (omega (arith, l.told.many)) ∙ ap ren (h.is d);
                    arc = h.arc;
                    to = sent i lt;
                    place = h.place;
                    door = h.door;
                    used = h.used;
                    label = h.label;
                  };
            };
            few = l.few;
            husks = husks-parted stays a n (written us list) l.wide ∙ l.husks;
            wide = wide-parted stays a n (written us list);
            early = early_set list.starts T list.many (suc n) from big (λ i lt imp. still i lt imp (leaves stays (suc a) (l.told.at i lt).x) refl);
          }
        where
          sent : (i : ℕ) (lt : i < list.many) → get_or T i 0 ≡ (renumbered stays a n (l.told.at i lt).x).to
          sent i lt =
              let h = l.told.at i lt in
              g.1 i h.x lt ∙ rw (lt-ltb i m (omega arith)) (ap (λ (y : Told S V). (renumbered stays a n y).to) (h.is h.x))

          still : (i : ℕ) (lt : i < list.many) → (get_or T i 0 ≡ suc n → i < from) → (q : Bool) → leaves stays (suc a) (l.told.at i lt).x ≡ q → get_or list.starts (get_or T i 0) 0 ≤ i
          still i lt imp true e =
              let h = l.told.at i lt in
              let to = sent i lt ∙ renumbered-there stays a n h.x h.used true e in
              let out : false ≡ true = sym (stays-there stays a n (told_from 0 (written us list)) from i h.x first (imp to) (omega (arith, l.told.many))) ∙ ap (leaves stays (suc a)) (h.is h.x) ∙ e in
              absurd (grind (arith, out))
          still i lt imp false e = let h = l.told.at i lt in rw (sent i lt ∙ renumbered-there stays a n h.x h.used false e ∙ sym h.to) (l.early i lt)
