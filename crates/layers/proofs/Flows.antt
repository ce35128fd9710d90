-- What flows along arcs, and what redirecting, tidying do to paths.
use Rattle.std.proofs.lemmas.Bool.Decides.{nat_tests}
use Rattle.std.proofs.Common.{◌≡◌, ℕ, zero, suc, ◌+◌, ◌-◌, ◌<◌, Bool, true, false, eqb, ◌⊎◌, List, [], ◌∷◌, ◌++◌, map, length, get_or, Some, None, fold, Option, refl, ap, ◌∙◌, inl, inr, not-suc-le-zero, arith}
use Rattle.std.proofs.lemmas.Bool.{eqb-true}
use Rattle.std.proofs.lemmas.Option.{none-some}
use lib.ListN.{length-map}
use Rattle.std.proofs.lemmas.List.{get_or-map}
use Rattle.layers.specs.Net.{table, Outs, Layer, Net, node, target, width, PathFrom, each_door, each_node, redirect}
use Rattle.layers.specs.Flow.{put, arrivals_by_door, arrivals_at, gather, next, read, cons_if_some, climbs_of, up}
use Rattle.layers.specs.Tidy.{Mark, marks_next, marks_up, flags, rank, compress, renumber, tidy, tidied_arcs}
use Rattle.layers.specs.Targets.{at_door}

-- membership, in lists of any kind
abbrev pub Among : {A : Type 0} → A → List A → Type 0
Among x [] = ⊥
Among x (y ∷ l) = (x ≡ y) ⊎ Among x l

-- as many targets to each node of a layer as there are doors
abbrev pub EvenLayer : ℕ → Layer → Type 0
EvenLayer n L = (a : ℕ) → a < length L → length (node L a) ≡ n

pub table_at : {A : Type 0} (n k : ℕ) (f : ℕ → A) (d : A) → k < n → get_or (table n f) k d ≡ f k
table_at zero k f d h = absurd (not-suc-le-zero h)
table_at (suc n) k f d h = grind (arith, h, table_at n (k - 1) (λ m. f (suc m)) d)

-- the labels of a layer of one node
pub first-only : {A : Type 0} (x : A) (P : ℕ → A → Type 0) → P 0 x → (a : ℕ) (l : A) → get_or (Some x ∷ []) a None ≡ Some l → P a l
first-only x P p zero l e = let y : x ≡ l = cc in rw (← y) p
first-only x P p (suc a) l e = absurd cc

pub table-long : {A : Type 0} (k : ℕ) (f : ℕ → A) → length (table k f) ≡ k
table-long zero f = refl
table-long (suc k) f = ap suc (table-long k (λ m. f (suc m)))

-- ---- redirecting
each_door-get : (f : ℕ → ℕ → ℕ) (j : ℕ) (ts : Outs) (k m : ℕ) → j + k ≡ m → get_or (each_door f j ts) k 0 ≡ at_door f m (get_or ts k 0)
unfolding each_door
each_door-get f j [] k m h = refl
each_door-get f j (t ∷ ts) k m h = grind (arith, each_door-get f (suc j) ts)

each_node-get : (f : ℕ → ℕ → ℕ → ℕ) (c : ℕ) (L : Layer) (a m j : ℕ) → c + a ≡ m → target (node (each_node f c L) a) j ≡ at_door (f m) j (target (node L a) j)
unfolding each_node
each_node-get f c L a m zero h = refl
each_node-get f c [] a m (suc k) h = refl
each_node-get f c (nd ∷ L) zero m (suc k) h = each_door-get (f c) 1 nd k (suc k) (omega arith) ∙ ap (λ (x : ℕ). at_door (f x) (suc k) (get_or nd k 0)) (omega arith)
each_node-get f c (nd ∷ L) (suc a) m (suc k) h = each_node-get f (suc c) L a m (suc k) (omega arith)

pub redirect-get : (f : ℕ → ℕ → ℕ → ℕ) (L : Layer) (a j : ℕ) → target (node (redirect f L) a) j ≡ at_door (f a) j (target (node L a) j)
unfolding redirect
redirect-get f L a j = each_node-get f 0 L a a j (omega arith)

pub redirect-arc : (f : ℕ → ℕ → ℕ → ℕ) (L : Layer) (a j b : ℕ) → target (node L a) j ≡ suc b → target (node (redirect f L) a) j ≡ f a j b
redirect-arc f L a j b e = redirect-get f L a j ∙ ap (at_door (f a) j) e

-- ---- places in range
pub has-arc : (L : Layer) (a j b : ℕ) → target (node L a) j ≡ suc b → a < length L
has-arc [] a j b e = grind (arith, e)
has-arc (nd ∷ L) a j b e = grind (arith, e, has-arc L (a - 1) j b)

pub inside : (Ls : Net) (a : ℕ) (w : List ℕ) → PathFrom Ls a w → a < width Ls
inside [] a [] p = omega arith
inside (L ∷ Ls) a (j ∷ w) p = has-arc L a j p.0 p.1
inside Ls a w p = absurd p

-- ---- downward
pub among-left : {A : Type 0} (x : A) (l m : List A) → Among x l → Among x (l ++ m)
among-left x [] m i = absurd i
among-left x (y ∷ l) m i = grind (arith, i, among-left x l m)

pub among-right : {A : Type 0} (x : A) (l m : List A) → Among x m → Among x (l ++ m)
among-right x [] m i = i
among-right x (y ∷ l) m i = inr (among-right x l m i)

module _ {A : Type 0} (arrival_over : A → ℕ → A) (merge : A → A → A) where
  ins_door-in : (b : ℕ) (l : A) (j : ℕ) (ts : Outs) (k m : ℕ) → j + k ≡ m → get_or ts k 0 ≡ suc b → Among (arrival_over l m) (arrivals_by_door arrival_over b l j ts)
  unfolding arrivals_by_door
  ins_door-in b l j [] k m h e = absurd (omega arith)
  ins_door-in b l j (t ∷ ts) zero m h e = let z : m ≡ j = omega arith in grind (arith, nat_tests, e, z)
  ins_door-in b l j (t ∷ ts) (suc k) m h e = grind (arith, ins_door-in b l (suc j) ts k m (omega arith) e)

  pub ins-in : (b : ℕ) (labs : List (Option A)) (L : Layer) (a j : ℕ) (l : A) → target (node L a) j ≡ suc b → get_or labs a None ≡ Some l → Among (arrival_over l j) (arrivals_at arrival_over b labs L)
  unfolding arrivals_at
  ins-in b (None ∷ labs) (nd ∷ L) (suc a) (suc k) l e g = ins-in b labs L a (suc k) l e g
  ins-in b (Some l' ∷ labs) (nd ∷ L) zero (suc k) l e g =
      let x : l' ≡ l = cc in
      among-left (arrival_over l (suc k)) (arrivals_by_door arrival_over b l' 1 nd) (arrivals_at arrival_over b labs L) (rw (← x) (ins_door-in b l' 1 nd k (suc k) (omega arith) e))
  ins-in b (Some l' ∷ labs) (nd ∷ L) (suc a) (suc k) l e g = among-right _ (arrivals_by_door arrival_over b l' 1 nd) _ (ins-in b labs L a (suc k) l e g)
  ins-in b labs L a zero l e g = absurd (omega arith)
  ins-in b labs L a (suc k) l e g = absurd cc

-- what merging keeps of one of those merged
module _ {A : Type 0} (merge : A → A → A) (P : A → Type 0) (left : (x y : A) → P x → P (merge x y)) (right : (x y : A) → P y → P (merge x y)) where
  fold_start : (x : A) (xs : List A) → P x → P (fold merge x xs)
  fold_start x [] p = p
  fold_start x (y ∷ xs) p = fold_start (merge x y) xs (left x y p)

  fold-in : (z x : A) (xs : List A) → Among z xs → P z → P (fold merge x xs)
  fold-in z x [] i p = absurd i
  fold-in z x (y ∷ xs) (inl e) p = fold_start (merge x y) xs (right x y (rw (← e) p))
  fold-in z x (y ∷ xs) (inr i) p = fold-in z (merge x y) xs i p

  pub gather-in : (z : A) (xs : List A) → Among z xs → P z → (m : A) × (gather merge xs ≡ Some m) × P m
  unfolding gather
  gather-in z [] i p = absurd i
  gather-in z (x ∷ xs) i p = (fold merge x xs, refl, elim i [ inl e ↦ fold_start x xs (rw (← e) p) | inr k ↦ fold-in z x xs k p ])

  -- what is so of what an arc brings is so of the label of its target
  pub next-at : (arrival_over : A → ℕ → A) (labs : List (Option A)) (L : Layer) (count a j b : ℕ) (l : A) → target (node L a) j ≡ suc b → get_or labs a None ≡ Some l → b < count
      → P (arrival_over l j) → (m : A) × (get_or (next arrival_over merge labs L count) b None ≡ Some m) × P m
  unfolding next
  next-at arrival_over labs L count a j b l e g h p =
      let q = gather-in (arrival_over l j) (arrivals_at arrival_over b labs L) (ins-in arrival_over merge b labs L a j l e g) p in
      (q.0, table_at count b (λ c. gather merge (arrivals_at arrival_over c labs L)) None h ∙ q.1, q.2)

  outs-in : (climb : A → ℕ → A) (us : List (Option A)) (u : A) (j : ℕ) (ts : Outs) (k m b : ℕ) → j + k ≡ m → get_or ts k 0 ≡ suc b → get_or us b None ≡ Some u → Among (climb u m) (climbs_of climb us j ts)
  unfolding climbs_of
  outs-in climb us u j [] k m b h e g = absurd (omega arith)
  outs-in climb us u j (t ∷ ts) zero m b h e g = let y : m ≡ j = omega arith in grind (arith, e, g, y)
  outs-in climb us u j (t ∷ ts) (suc k) m b h e g = grind (arith, outs-in climb us u (suc j) ts k m b (omega arith) e g)

  -- what is so of what climbs over an arc of a node is so of what the node gathers
  pub climbs-at : (climb : A → ℕ → A) (us : List (Option A)) (L : Layer) (a j b : ℕ) (u : A) → target (node L a) j ≡ suc b → get_or us b None ≡ Some u
      → P (climb u j) → (m : A) × (gather merge (climbs_of climb us 1 (node L a)) ≡ Some m) × P m
  climbs-at climb us L a zero b u e g p = absurd (omega arith)
  climbs-at climb us L a (suc k) b u e g p = gather-in (climb u (suc k)) (climbs_of climb us 1 (node L a)) (outs-in climb us u 1 (node L a) k (suc k) b (omega arith) e g) p

  pub up_at : (climb : A → ℕ → A) (top : A) (L : Layer) (Ls : Net) (a j b : ℕ) (u : A) → target (node L a) j ≡ suc b → get_or (up climb merge top Ls) b None ≡ Some u
      → P (climb u j) → (m : A) × (get_or (up climb merge top (L ∷ Ls)) a None ≡ Some m) × P m
  unfolding up
  up_at climb top L Ls a j b u e g p =
      let us = up climb merge top Ls in
      let q = climbs-at climb us L a j b u e g p in
      (q.0, get_or-map (λ nd. gather merge (climbs_of climb us 1 nd)) L a [] None (has-arc L a j b e) ∙ q.1, q.2)

-- ---- tidying
pub mark-next : (fr : List (Option Mark)) (L : Layer) (count a j b : ℕ) → target (node L a) j ≡ suc b → get_or fr a None ≡ Some tt → b < count → get_or (marks_next fr L count) b None ≡ Some tt
unfolding marks_next
mark-next fr L count a j b e g h = (next-at {A = Mark} (λ x y. tt) (λ x. Unit {0}) (λ x y p. tt) (λ x y p. tt) (λ m k. tt) fr L count a j b tt e g h tt).1

pub mark-up : (Ls : Net) (a : ℕ) (w : List ℕ) → PathFrom Ls a w → get_or (marks_up Ls) a None ≡ Some tt
unfolding marks_up
mark-up [] a [] p = unfold up in ap (λ (x : ℕ). get_or {A = Option Mark} (Some tt ∷ []) x None) p
mark-up (L ∷ Ls) a (j ∷ w) p = (up_at {A = Mark} (λ x y. tt) (λ x. Unit {0}) (λ x y p. tt) (λ x y p. tt) (λ m k. tt) tt L Ls a j p.0 tt p.1 (mark-up Ls p.0 w p.2) tt).1
mark-up Ls a w p = absurd p

pub flags-at : (fr us : List (Option Mark)) (a : ℕ) → get_or fr a None ≡ Some tt → get_or us a None ≡ Some tt → get_or (flags fr us) a false ≡ true
unfolding flags
flags-at (x ∷ xs) (u ∷ us) a e f = grind (arith, e, f, flags-at xs us)
flags-at xs us a e f = absurd cc

pub compress-at : (fs : List Bool) (L : Layer) (a : ℕ) → get_or fs a false ≡ true → node (compress fs L) (rank fs a) ≡ node L a
unfolding compress rank
compress-at [] L a e = absurd cc
compress-at (f ∷ fs) [] a e = refl
compress-at (f ∷ fs) (x ∷ xs) a e = grind (arith, e, compress-at fs xs)

pub rank-zero : (fs : List Bool) → rank fs 0 ≡ 0
unfolding rank
rank-zero [] = refl
rank-zero (f ∷ fs) = grind arith

pub renumber-at : (fs : List Bool) (b : ℕ) → get_or fs b false ≡ true → renumber fs b ≡ suc (rank fs b)
unfolding renumber
renumber-at fs b e = rw e

pub within : {A : Type 0} (us : List (Option A)) (a : ℕ) (x : A) → get_or us a None ≡ Some x → a < length us
within [] a x e = absurd (none-some x e)
within (u ∷ us) a x e = grind (arith, e, within us (a - 1) x)

ups-length : (Ls : Net) → length (marks_up Ls) ≡ width Ls
unfolding marks_up up
ups-length [] = refl
ups-length (L ∷ Ls) = length-map L (λ nd. gather {A = Mark} (λ x y. tt) (climbs_of {A = Mark} (λ m k. tt) (marks_up Ls) 1 nd))

-- a node that leads to the end is within its layer
pub ups-within : (Ls : Net) (b : ℕ) → get_or (marks_up Ls) b None ≡ Some tt → b < width Ls
ups-within Ls b e = let h = within (marks_up Ls) b tt e in omega (arith, ups-length Ls)

-- an arc from a marked node to one that leads to the end stays
pub arc-stays : (fr : List (Option Mark)) (L : Layer) (Ls : Net) (a j b : ℕ) → get_or fr a None ≡ Some tt → target (node L a) j ≡ suc b → get_or (marks_up Ls) b None ≡ Some tt → let fr' = marks_next fr L (width Ls) in
    let fs = flags fr' (marks_up Ls) in (get_or fr' b None ≡ Some tt) × (target (node (redirect (λ x y c. renumber fs c) L) a) j ≡ suc (rank fs b))
arc-stays fr L Ls a j b g e u =
    let fr' = marks_next fr L (width Ls) in
    let fs = flags fr' (marks_up Ls) in
    let g' = mark-next fr L (width Ls) a j b e g (ups-within Ls b u) in
    (g', redirect-arc (λ x y c. renumber fs c) L a j b e ∙ renumber-at fs b (flags-at fr' (marks_up Ls) b g' u))

tidy-from : (fr : List (Option Mark)) (Ls : Net) (a : ℕ) (w : List ℕ) → get_or fr a None ≡ Some tt → PathFrom Ls a w → PathFrom (tidy fr Ls) (rank (flags fr (marks_up Ls)) a) w
unfolding tidy
tidy-from fr [] a [] g p = ap (rank (flags fr (marks_up []))) p ∙ rank-zero (flags fr (marks_up []))
tidy-from fr (L ∷ Ls) a (j ∷ w) g p =
    let fs = flags (marks_next fr L (width Ls)) (marks_up Ls) in
    let s = arc-stays fr L Ls a j p.0 g p.1 (mark-up Ls p.0 w p.2) in
    let here = flags-at fr (marks_up (L ∷ Ls)) a g (mark-up (L ∷ Ls) a (j ∷ w) p) in
    (rank fs p.0, rw (compress-at (flags fr (marks_up (L ∷ Ls))) (redirect (λ x y c. renumber fs c) L) a here) s.1, tidy-from (marks_next fr L (width Ls)) Ls p.0 w s.0 p.2)
tidy-from fr Ls a w g p = absurd p

pub tidy-keeps : (Ls : Net) (w : List ℕ) → PathFrom Ls 0 w → PathFrom (tidied_arcs Ls) 0 w
unfolding tidied_arcs
tidy-keeps [] w p = p
tidy-keeps (L ∷ Ls) (j ∷ w) p =
    let s = arc-stays (Some tt ∷ []) L Ls 0 j p.0 refl p.1 (mark-up Ls p.0 w p.2) in
    (rank (flags (marks_next (Some tt ∷ []) L (width Ls)) (marks_up Ls)) p.0, s.1, tidy-from (marks_next (Some tt ∷ []) L (width Ls)) Ls p.0 w s.0 p.2)
tidy-keeps Ls w p = absurd p

-- ---- where an arrival comes from
pub among-split : {A : Type 0} (x : A) (l m : List A) → Among x (l ++ m) → Among x l ⊎ Among x m
among-split x [] m i = inr i
among-split x (y ∷ l) m i = grind (arith, i, among-split x l m)

pub record From {A : Type 0} (arrival_over : A → ℕ → A) (b : ℕ) (labs : List (Option A)) (L : Layer) (x : A) : Type 0 where
  pub source : ℕ
  pub door : ℕ
  pub label : A
  pub arc : target (node L source) door ≡ suc b
  pub labelled : get_or labs source None ≡ Some label
  pub is : x ≡ arrival_over label door

module _ {A : Type 0} (arrival_over : A → ℕ → A) where
  put-from : (q : Bool) (x y : A) (r : List A) → Among x (put q y r) → ((q ≡ true) × (x ≡ y)) ⊎ Among x r
  put-from q x y r i = grind (arith, i)

  ins_door-from : (b : ℕ) (l x : A) (j : ℕ) (ts : Outs) → Among x (arrivals_by_door arrival_over b l j ts) → (k : ℕ) × (get_or ts k 0 ≡ suc b) × (x ≡ arrival_over l (j + k))
  unfolding arrivals_by_door
  ins_door-from b l x j [] i = absurd i
  ins_door-from b l x j (t ∷ ts) i = elim (put-from (eqb t (suc b)) x (arrival_over l j) (arrivals_by_door arrival_over b l (suc j) ts) i) [
    | inl h ↦ (0, eqb-true t (suc b) h.0, h.1 ∙ ap (arrival_over l) (omega arith))
    | inr h ↦ (let q = ins_door-from b l x (suc j) ts h in (suc q.0, q.1, q.2 ∙ ap (arrival_over l) (omega arith)))
  ]

  from-later : (b : ℕ) (o : Option A) (nd : Outs) (labs : List (Option A)) (L : Layer) (x : A) → From arrival_over b labs L x → From arrival_over b (o ∷ labs) (nd ∷ L) x
  from-later b o nd labs L x q = record { source = suc q.source; door = q.door; label = q.label; arc = q.arc; labelled = q.labelled; is = q.is }

  pub ins-from : (b : ℕ) (labs : List (Option A)) (L : Layer) (x : A) → Among x (arrivals_at arrival_over b labs L) → From arrival_over b labs L x
  unfolding arrivals_at
  ins-from b (None ∷ labs) (nd ∷ L) x i = from-later b None nd labs L x (ins-from b labs L x i)
  ins-from b (Some l ∷ labs) (nd ∷ L) x i = elim (among-split x (arrivals_by_door arrival_over b l 1 nd) (arrivals_at arrival_over b labs L) i) [
    | inl h ↦ (let q = ins_door-from b l x 1 nd h in record { source = 0; door = suc q.0; label = l; arc = q.1; labelled = refl; is = q.2 ∙ ap (arrival_over l) (omega arith) })
    | inr h ↦ from-later b (Some l) nd labs L x (ins-from b labs L x h)
  ]
  ins-from b labs L x i = absurd i

pub table-get : {A : Type 0} (n k : ℕ) (f : ℕ → Option A) (x : A) → get_or (table n f) k None ≡ Some x → (k < n) × (f k ≡ Some x)
table-get zero k f x e = absurd cc
table-get (suc n) k f x e = grind (arith, e, table-get n (k - 1) (λ m. f (suc m)) x)

pub next-some : {A : Type 0} (arrival_over : A → ℕ → A) (merge : A → A → A) (labs : List (Option A)) (L : Layer) (count b : ℕ) (m : A)
    → get_or (next arrival_over merge labs L count) b None ≡ Some m → gather merge (arrivals_at arrival_over b labs L) ≡ Some m
unfolding next
next-some arrival_over merge labs L count b m e = (table-get count b (λ c. gather merge (arrivals_at arrival_over c labs L)) m e).1

-- what each arrival has and merging keeps, the label has
pub gather-all : {A : Type 0} (merge : A → A → A) (P : A → Type 0) → ((x y : A) → P x → P y → P (merge x y))
    → (l : List A) (m : A) → ((x : A) → Among x l → P x) → gather merge l ≡ Some m → P m
unfolding gather
gather-all merge P keep [] m f e = absurd cc
gather-all {A} merge P keep (x ∷ xs) m f e = let y : fold merge x xs ≡ m = cc in rw (← y) (go x xs (f x (inl refl)) (λ z i. f z (inr i)))
  where
    go : (y : A) (ys : List A) → P y → ((z : A) → Among z ys → P z) → P (fold merge y ys)
    go y [] p g = p
    go y (z ∷ ys) p g = go (merge y z) ys (keep y z p (g z (inl refl))) (λ t i. g t (inr i))

pub next-within : {A : Type 0} (arrival_over : A → ℕ → A) (merge : A → A → A) (labs : List (Option A)) (L : Layer) (count b : ℕ) (m : A)
    → get_or (next arrival_over merge labs L count) b None ≡ Some m → b < count
unfolding next
next-within arrival_over merge labs L count b m e = (table-get count b (λ c. gather merge (arrivals_at arrival_over c labs L)) m e).0

-- what each arc brings and merging keeps, the label of its target has
pub next-all : {A : Type 0} (arrival_over : A → ℕ → A) (merge : A → A → A) (labs : List (Option A)) (L : Layer) (count b : ℕ) (m : A) (P : A → Type 0) → ((x y : A) → P x → P y → P (merge x y))
    → ((a j : ℕ) (l : A) → target (node L a) j ≡ suc b → get_or labs a None ≡ Some l → P (arrival_over l j)) → get_or (next arrival_over merge labs L count) b None ≡ Some m → P m
next-all arrival_over merge labs L count b m P keep f e = gather-all merge P keep (arrivals_at arrival_over b labs L) m
    (λ x i. let s = ins-from arrival_over b labs L x i in rw s.is (f s.source s.door s.label s.arc s.labelled)) (next-some arrival_over merge labs L count b m e)

-- where a label from above comes from
outs-from : {A : Type 0} (climb : A → ℕ → A) (us : List (Option A)) (x : A) (j : ℕ) (ts : Outs) → Among x (climbs_of climb us j ts)
    → (k : ℕ) × (b : ℕ) × (u : A) × (get_or ts k 0 ≡ suc b) × (get_or us b None ≡ Some u) × (x ≡ climb u (j + k))
unfolding climbs_of
outs-from climb us x j [] i = absurd i
outs-from {A} climb us x j (t ∷ ts) i = elim (go t (read us t) refl i) [
  | inl c ↦ (0, c.0, c.1, c.2, c.3, c.4 ∙ ap (climb c.1) (omega arith))
  | inr h ↦ (let c = outs-from climb us x (suc j) ts h in (suc c.0, c.1, c.2, c.3, c.4, c.5 ∙ ap (climb c.2) (omega arith)))
]
  where
    go : (t : ℕ) (o : Option A) → read us t ≡ o → Among x (cons_if_some climb j o (climbs_of climb us (suc j) ts)) → ((b : ℕ) × (u : A) × (t ≡ suc b) × (get_or us b None ≡ Some u) × (x ≡ climb u j)) ⊎ Among x (climbs_of climb us (suc j) ts)
    go t None e i = inr i
    go zero (Some u) e i = absurd cc
    go (suc b) (Some u) e (inl h) = inl (b, u, refl, e, h)
    go (suc b) (Some u) e (inr h) = inr h

map-some : {A : Type 0} (f : Outs → Option A) (L : Layer) (a : ℕ) (x : A) → get_or (map f L) a None ≡ Some x → f (node L a) ≡ Some x
map-some f [] a x e = absurd cc
map-some f (nd ∷ L) a x e = grind (arith, e, map-some f L)

-- what climbs over each arc of a node and merging keeps, the node gathers
pub climbs-all : {A : Type 0} (climb : A → ℕ → A) (merge : A → A → A) (us : List (Option A)) (L : Layer) (a : ℕ) (m : A) (P : A → Type 0) → ((x y : A) → P x → P y → P (merge x y))
    → ((j b : ℕ) (u : A) → target (node L a) j ≡ suc b → get_or us b None ≡ Some u → P (climb u j)) → gather merge (climbs_of climb us 1 (node L a)) ≡ Some m → P m
climbs-all climb merge us L a m P keep f =
    gather-all merge P keep (climbs_of climb us 1 (node L a)) m
    (λ x i. let c = outs-from climb us x 1 (node L a) i in rw (c.5, ap (climb c.2) {x = 1 + c.0} {y = suc c.0} (omega arith)) (f (suc c.0) c.1 c.2 c.3 c.4))

pub up-all : {A : Type 0} (climb : A → ℕ → A) (merge : A → A → A) (top : A) (L : Layer) (Ls : Net) (a : ℕ) (m : A) (P : A → Type 0) → ((x y : A) → P x → P y → P (merge x y))
    → ((j b : ℕ) (u : A) → target (node L a) j ≡ suc b → get_or (up climb merge top Ls) b None ≡ Some u → P (climb u j)) → get_or (up climb merge top (L ∷ Ls)) a None ≡ Some m → P m
unfolding up
up-all climb merge top L Ls a m P keep f e =
    let us = up climb merge top Ls in
    climbs-all climb merge us L a m P keep f (map-some (λ nd. gather merge (climbs_of climb us 1 nd)) L a m e)
