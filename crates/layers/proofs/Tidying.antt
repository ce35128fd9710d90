-- Tidying in the subject's words: the paths stay, and exactly the nodes on a path, numbered anew in their order. A tied diagram is left as it is.
use Rattle.layers.proofs.Ways.{length-snoc}
use Rattle.layers.specs.Lawful.{IsLed, IsTied, IsRanged}
use Rattle.std.proofs.Common.{◌≡◌, ℕ, ◌-◌, zero, suc, ◌<◌, ◌≤◌, Bool, true, false, cond, ◌⊎◌, List, [], ◌∷◌, length, get_or, drop, Some, None, Option, sym, refl, ap, ◌∙◌, subst, inl, inr, not-suc-le-zero, arith, ◌++◌, le_of_suc-le-suc}
use Rattle.std.proofs.lemmas.Bool.{false≢true, cases_eq}
use Rattle.std.proofs.lemmas.List.{ext_get_or}
use Rattle.layers.specs.Net.{Outs, Layer, Net, node, target, width, PathFrom, each_node, redirect}
use Rattle.layers.specs.Flow.{up}
use Rattle.layers.specs.Tidy.{Mark, marks_next, marks_up, flags, rank, compress, renumber, tidy, tidied_arcs}
use Rattle.layers.specs.LabelLaws.{PathTo}
use Rattle.layers.specs.TidyLaws.{layer_of, IsOnPath, Stays, CountBelow, Becomes, IsRenumbered, IsTidied, TidyMeans, IsTidy, TidyStays}
use Rattle.layers.proofs.Flows.{first-only, has-arc, inside, redirect-arc, mark-next, mark-up, flags-at, compress-at, rank-zero, renumber-at, tidy-keeps}
use Rattle.layers.proofs.Proper.{tidied-length}
use Rattle.layers.proofs.Tied.{stayed-arc, redirect-length, redirect-long, flags-back, marked_from, climbs-from}

-- ---- counting
count-only : (P : ℕ → Type 0) (b k m : ℕ) → CountBelow P b k → CountBelow P b m → k ≡ m
count-only P zero k m x y = x ∙ sym y
count-only P (suc b) zero zero x y = refl
count-only P (suc b) zero (suc m) x y = grind (arith, x, y, count-only P b zero)
count-only P (suc b) (suc k) zero x y = grind (arith, x, y, count-only P b (suc k) zero)
count-only P (suc b) (suc k) (suc m) x y = grind (arith, x, y, count-only P b k m, count-only P b (suc k) (suc m))

count-each : (P : ℕ → Type 0) (m : ℕ) → ((b : ℕ) → b < m → P b) → CountBelow P m m
count-each P zero h = refl
count-each P (suc m) h = inl (h m (omega arith), count-each P m (λ b lt. h b (omega arith)))

count-skip : (P : ℕ → Type 0) (b k : ℕ) → ¬ (P b) → CountBelow P b k → CountBelow P (suc b) k
count-skip P b zero n h = (n, h)
count-skip P b (suc k) n h = inr (n, h)

rank-step : (fs : List Bool) (b : ℕ) → rank fs (suc b) ≡ cond (get_or fs b false) (suc (rank fs b)) (rank fs b)
unfolding rank
rank-step [] b = refl
rank-step (f ∷ fs) zero = grind (arith, rank-zero fs)
rank-step (f ∷ fs) (suc b) = grind (arith, rank-step fs b)

-- a rank is the count of the flags before
count-rank : (P : ℕ → Type 0) (fs : List Bool) → ((b : ℕ) → get_or fs b false ≡ true → P b) → ((b : ℕ) → P b → get_or fs b false ≡ true) → (b : ℕ) → CountBelow P b (rank fs b)
count-rank P fs f g zero = rank-zero fs
count-rank P fs f g (suc b) = grind (arith, f b, g b, rank-step fs b, count-skip P b (rank fs b), count-rank P fs f g b)

compress-long : (fs : List Bool) (X : Layer) → length (compress fs X) ≡ rank fs (length X)
unfolding compress rank
compress-long (f ∷ fs) (x ∷ X) = grind (arith, compress-long fs X)
compress-long fs X = refl

-- ---- the flags of layer i, where fr are the marks of the first layer
abbrev flags_of : List (Option Mark) → Net → ℕ → List Bool
flags_of fr Ls zero = flags fr (marks_up Ls)
flags_of fr [] (suc i) = []
flags_of fr (L ∷ Ls) (suc i) = flags_of (marks_next fr L (width Ls)) Ls i

tidy-at : (fr : List (Option Mark)) (Ls : Net) (i : ℕ) → layer_of (tidy fr Ls) i ≡ compress (flags_of fr Ls i) (redirect (λ a j b. renumber (flags_of fr Ls (suc i)) b) (layer_of Ls i))
unfolding tidy redirect each_node compress
tidy-at fr [] i = elim (flags_of fr [] i) as (λ fs. [] ≡ compress {A = Outs} fs []) [ [] ↦ refl | f ∷ fs ↦ refl ]
tidy-at fr (L ∷ Ls) zero = refl
tidy-at fr (L ∷ Ls) (suc i) = tidy-at (marks_next fr L (width Ls)) Ls i

-- a node from which a path leads on is within its layer
way-within : (Ls : Net) (c : ℕ) (w : List ℕ) (b : ℕ) (v : List ℕ) → PathTo Ls c w b → PathFrom (drop (length w) Ls) b v → c < width Ls
way-within Ls c [] b v p q = rw p (inside Ls b v q)
way-within (L ∷ Ls) c (j ∷ w) b v p q = has-arc L c j p.0 p.1
way-within Ls c w b v p q = absurd p

-- a flag is that a path leads to the node from one that is marked, and one on from it
flag-on : (fr : List (Option Mark)) (Ls : Net) (w : List ℕ) (a b : ℕ) (v : List ℕ) → get_or fr a None ≡ Some tt → PathTo Ls a w b → PathFrom (drop (length w) Ls) b v → get_or (flags_of fr Ls (length w)) b false ≡ true
flag-on fr Ls [] a b v m p q = flags-at fr (marks_up Ls) b (rw (← p) m) (mark-up Ls b v q)
flag-on fr [] (j ∷ w) a b v m p q = absurd p
flag-on fr (L ∷ Ls) (j ∷ w) a b v m p q =
    flag-on (marks_next fr L (width Ls)) Ls w p.0 b v (mark-next fr L (width Ls) a j p.0 p.1 m (way-within Ls p.0 w b v p.2 q)) p.2 q

end-only : (b : ℕ) → get_or (marks_up []) b None ≡ Some tt → b ≡ 0
unfolding marks_up up
end-only b = first-only tt (λ a m. a ≡ 0) refl b tt

goes-on : (Ls : Net) (b : ℕ) → get_or (marks_up Ls) b None ≡ Some tt → (v : List ℕ) × PathFrom Ls b v
goes-on [] b e = ([], end-only b e)
goes-on (L ∷ Ls) b e = let s = climbs-from L Ls b e in let t = goes-on Ls s.1 s.3 in (s.0 ∷ t.0, (s.1, s.2, t.1))

on-flag : (fr : List (Option Mark)) (Ls : Net) (i b : ℕ) → get_or (flags_of fr Ls i) b false ≡ true
    → (a : ℕ) × (get_or fr a None ≡ Some tt) × (w : List ℕ) × PathTo Ls a w b × (length w ≡ i) × (v : List ℕ) × PathFrom (drop i Ls) b v
on-flag fr Ls zero b e = let m = flags-back fr (marks_up Ls) b e in let g = goes-on Ls b m.1 in (b, m.0, [], refl, refl, g.0, g.1)
on-flag fr [] (suc i) b e = absurd (false≢true e)
on-flag fr (L ∷ Ls) (suc i) b e =
    let s = on-flag (marks_next fr L (width Ls)) Ls i b e in
    let m = marked_from fr L (width Ls) s.0 s.1 in
    (m.0, m.3, m.1 ∷ s.2, (s.0, m.2, s.3), ap suc s.4, s.5, s.6)

-- ---- from the first node
abbrev start : List (Option Mark)
start = Some tt ∷ []

first-at : (D : Net) → layer_of (tidied_arcs D) 0 ≡ redirect (λ a j b. renumber (flags_of start D 1) b) (layer_of D 0)
unfolding tidied_arcs redirect each_node
first-at [] = refl
first-at (L ∷ Ls) = refl

later-at : (D : Net) (i : ℕ) → layer_of (tidied_arcs D) (suc i) ≡ compress (flags_of start D (suc i)) (redirect (λ a j b. renumber (flags_of start D (suc (suc i))) b) (layer_of D (suc i)))
unfolding tidied_arcs compress
later-at [] i = refl
later-at (L ∷ Ls) i = tidy-at (marks_next start L (width Ls)) Ls i

module _ (D : Net) where
  abbrev F : ℕ → List Bool
  F = flags_of start D

  on-path : (i b : ℕ) → get_or (F i) b false ≡ true → IsOnPath D i b
  on-path i b e =
      let s = on-flag start D i b e in
      record { to = (s.2, (subst (λ (a : ℕ). PathTo D a s.2 b) (first-only tt (λ a m. a ≡ 0) refl s.0 tt s.1) s.3, s.4)); on = (s.5, s.6) }

  flagged : (i b : ℕ) → IsOnPath D i b → get_or (F i) b false ≡ true
  flagged i b o =
      let w = o.to.0 in let e = o.to.1.1 in
      subst (λ (k : ℕ). get_or (F k) b false ≡ true) e
      (flag-on start D w 0 b o.on.0 refl o.to.1.0 (subst (λ (k : ℕ). PathFrom (drop k D) b o.on.0) (sym e) o.on.1))

  -- below the first layer a node that stays has its rank for its new place
  counted : (i b : ℕ) → CountBelow (Stays D (suc i)) b (rank (F (suc i)) b)
  counted i b = count-rank (Stays D (suc i)) (F (suc i)) (on-path (suc i)) (flagged (suc i)) b

  renumbered : (i : ℕ) (L : Layer) (a : ℕ) → IsRenumbered D i (node L a) (node (redirect (λ a j b. renumber (F (suc i)) b) L) a)
  renumbered i L a =
      let f : ℕ → ℕ → ℕ → ℕ = λ a j b. renumber (F (suc i)) b in
      record {
        doors = redirect-long f L a;
        arcs = λ j c. (
          (λ e. let q = stayed-arc (F (suc i)) L a j c e in (q.0, q.1, record { stays = on-path (suc i) q.0 q.2; before = subst (CountBelow (Stays D (suc i)) q.0) q.3 (counted i q.0) })),
          (λ s. redirect-arc f L a j s.0 s.1 ∙ renumber-at (F (suc i)) s.0 (flagged (suc i) s.0 s.2.stays)
              ∙ ap suc (count-only (Stays D (suc i)) s.0 (rank (F (suc i)) s.0) c (counted i s.0) s.2.before)),
        );
      }

  as-many : (i : ℕ) → CountBelow (Stays D i) (length (layer_of D i)) (length (layer_of (tidied_arcs D) i))
  as-many zero = rw (first-at D, redirect-length) (count-each (Stays D 0) (length (layer_of D 0)) (λ b h. tt))
  as-many (suc i) =
      let f : ℕ → ℕ → ℕ → ℕ = λ a j b. renumber (F (suc (suc i))) b in
      let n = redirect-length f (layer_of D (suc i)) in
      grind (arith, later-at D i, n, compress-long (F (suc i)) (redirect f (layer_of D (suc i))), counted i (length (layer_of D (suc i))))

  place : (i b : ℕ) → b < length (layer_of D i) → Stays D i b → (k : ℕ) × Becomes D i b k × IsRenumbered D i (node (layer_of D i) b) (node (layer_of (tidied_arcs D) i) k)
  place zero b h s = (b, record { stays = tt; before = count-each (Stays D 0) b (λ c h. tt) }, rw (first-at D) (renumbered 0 (layer_of D 0) b))
  place (suc i) b h s =
      let e = flagged (suc i) b s in
      let X = redirect (λ a j b. renumber (F (suc (suc i))) b) (layer_of D (suc i)) in
      (rank (F (suc i)) b, record { stays = s; before = counted i b }, rw (later-at D i, compress-at (F (suc i)) X b e) (renumbered (suc i) (layer_of D (suc i)) b))

-- ---- the paths
tidy-back : (fr : List (Option Mark)) (Ls : Net) (a : ℕ) (w : List ℕ) → get_or (flags fr (marks_up Ls)) a false ≡ true → PathFrom (tidy fr Ls) (rank (flags fr (marks_up Ls)) a) w → PathFrom Ls a w
unfolding tidy
tidy-back fr [] a [] f p = end-only a (flags-back fr (marks_up []) a f).1
tidy-back fr (L ∷ Ls) a (j ∷ w) f p =
    let fr' = marks_next fr L (width Ls) in
    let fs = flags fr' (marks_up Ls) in
    let q = stayed-arc fs L a j p.0 (rw (compress-at (flags fr (marks_up (L ∷ Ls))) (redirect (λ a j b. renumber fs b) L) a f) at p.1) in
    (q.0, q.1, tidy-back fr' Ls q.0 w q.2 (subst (λ (c : ℕ). PathFrom (tidy fr' Ls) c w) (sym q.3) p.2))
tidy-back fr Ls a w f p = absurd p

pub tidied-back : (Ls : Net) (w : List ℕ) → PathFrom (tidied_arcs Ls) 0 w → PathFrom Ls 0 w
unfolding tidied_arcs
tidied-back [] w p = p
tidied-back (L ∷ Ls) (j ∷ w) p =
    let fr = marks_next start L (width Ls) in
    let fs = flags fr (marks_up Ls) in
    let q = stayed-arc fs L 0 j p.0 p.1 in
    (q.0, q.1, tidy-back fr Ls q.0 w q.2 (subst (λ (c : ℕ). PathFrom (tidy fr Ls) c w) (sym q.3) p.2))
tidied-back Ls w p = absurd p

tidies : (D : Net) → IsTidied D (tidied_arcs D)
tidies D = grind (arith, tidied-back D, tidy-keeps D, tidied-length D, as-many D, place D)

-- ---- these facts are so of one net alone
-- of n that are counted there is one before which k are
count-find : (P : ℕ → Type 0) (m n k : ℕ) → CountBelow P m n → k < n → (b : ℕ) × (b < m) × P b × CountBelow P b k
count-find P (suc m) (suc n) k (inl h) lt =
    elim (cases_eq k n) [
      | inl e ↦ (m, omega arith, h.0, rw e h.1)
      | inr ne ↦ (let f = count-find P m n k h.1 (omega arith) in (f.0, omega arith, f.2, f.3))
    ]
count-find P (suc m) (suc n) k (inr h) lt = let f = count-find P m (suc n) k h.1 lt in (f.0, omega arith, f.2, f.3)
count-find P m n k h lt = absurd (omega arith)

same-number : (x y : ℕ) → ((c : ℕ) → x ≡ suc c → y ≡ suc c) → ((c : ℕ) → y ≡ suc c → x ≡ suc c) → x ≡ y
same-number x y f g = grind (arith, f (x - 1), g (y - 1))

same-outs : (D : Net) (i : ℕ) (old x y : Outs) → IsRenumbered D i old x → IsRenumbered D i old y → x ≡ y
same-outs D i old x y p q = ext_get_or 0 x y (p.doors ∙ sym q.doors) (λ k lt. same-number (get_or x k 0) (get_or y k 0)
    (λ c e. (q.arcs (suc k) c).1 ((p.arcs (suc k) c).0 e))
    (λ c e. (p.arcs (suc k) c).1 ((q.arcs (suc k) c).0 e)))

module _ (D E E' : Net) (x : IsTidied D E) (y : IsTidied D E') where
  same-layer : (i : ℕ) → layer_of E i ≡ layer_of E' i
  same-layer i = ext_get_or [] (layer_of E i) (layer_of E' i) (count-only (Stays D i) (length (layer_of D i)) (length (layer_of E i)) (length (layer_of E' i)) (x.nodes i) (y.nodes i)) (λ k lt.
      let f = count-find (Stays D i) (length (layer_of D i)) (length (layer_of E i)) k (x.nodes i) lt in
      let u = x.node_at i f.0 f.1 f.2 in
      let v = y.node_at i f.0 f.1 f.2 in
      let old = node (layer_of D i) f.0 in
      same-outs D i old (node (layer_of E i) k) (node (layer_of E' i) k)
      (subst (λ (m : ℕ). IsRenumbered D i old (node (layer_of E i) m)) (count-only (Stays D i) f.0 u.0 k u.1.before f.3) u.2)
      (subst (λ (m : ℕ). IsRenumbered D i old (node (layer_of E' i) m)) (count-only (Stays D i) f.0 v.0 k v.1.before f.3) v.2))

  same-net : E ≡ E'
  same-net = ext_get_or [] E E' (x.layers ∙ sym y.layers) (λ i lt. same-layer i)

pub tidy-means : TidyMeans
tidy-means D E = (λ x. same-net D E (tidied_arcs D) x (tidies D), λ e. rw e (tidies D))

-- ---- what tidying leaves alone
count-le : (P : ℕ → Type 0) (m n : ℕ) → CountBelow P m n → n ≤ m
count-le P (suc m) (suc n) h = grind (arith, h, count-le P m n, count-le P m (suc n))
count-le P m n h = omega arith

count-full : (P : ℕ → Type 0) (m : ℕ) → CountBelow P m m → (b : ℕ) → b < m → P b
count-full P zero h b lt = absurd (omega arith)
count-full P (suc m) (inl h) b lt = elim (cases_eq b m) [ inl e ↦ rw e h.0 | inr ne ↦ count-full P m h.1 b (omega arith) ]
count-full P (suc m) (inr h) b lt = absurd (omega (arith, count-le P m (suc m) h.1))

-- a layer is as wide as it has nodes, and past the last there is the end
width-at : (D : Net) (i : ℕ) → (width (drop i D) ≡ length (layer_of D i)) ⊎ (width (drop i D) ≡ 1)
width-at [] zero = inr refl
width-at [] (suc i) = inr refl
width-at (L ∷ D) zero = inl refl
width-at (L ∷ D) (suc i) = width-at D i

-- where all stay, each keeps its place
own-place : (D : Net) (i b k : ℕ) → ((c : ℕ) → c < b → Stays D i c) → CountBelow (Stays D i) b k → b ≡ k
own-place D i b k h n = count-only (Stays D i) b b k (count-each (Stays D i) b h) n

same-tidy : (D : Net) → IsTidied D D → IsTidy D
same-tidy D t = record {
  nodes = λ i b lt. stays (suc i) b lt;
  arcs = λ i a j b e.
      let here : a < length (layer_of D i) = has-arc (layer_of D i) a j b e in
      let s = t.node_at i a here (stays i a here) in
      let o : a ≡ s.0 = own-place D i a s.0 (λ c lt. stays i c (omega arith)) s.1.before in
      let q = (s.2.arcs j b).0 (subst (λ (k : ℕ). target (node (layer_of D i) k) j ≡ suc b) o e) in
      let z : q.0 ≡ b = omega (arith, q.1, e) in
      subst (IsOnPath D (suc i)) z q.2.stays;
}
  where
    stays : (i b : ℕ) → b < length (layer_of D i) → Stays D i b
    stays i b lt = count-full (Stays D i) (length (layer_of D i)) (t.nodes i) b lt

tidy-same : (D : Net) → IsTidy D → IsTidied D D
tidy-same D t = record {
  paths = λ w. (λ p. p, λ p. p);
  layers = refl;
  nodes = λ i. count-each (Stays D i) (length (layer_of D i)) (λ b lt. stays i b lt);
  node_at = λ i b lt s. (
    b,
    record { stays = s; before = count-each (Stays D i) b (λ c l. stays i c (omega arith)) },
    record {
      doors = refl;
      arcs = λ j c. (
        (λ e. let o = t.arcs i b j c e in (c, e, record { stays = o; before = count-each (Stays D (suc i)) c (before i c o) })),
        (λ q. q.1 ∙ ap suc (own-place D (suc i) q.0 c (before i q.0 q.2.stays) q.2.before)),
      );
    },
  );
}
  where
    stays : (i b : ℕ) → b < length (layer_of D i) → Stays D i b
    stays zero b lt = tt
    stays (suc i) b lt = t.nodes i b lt

    before : (i c : ℕ) → IsOnPath D (suc i) c → (b : ℕ) → b < c → IsOnPath D (suc i) b
    before i c o b lt = let h = inside (drop (suc i) D) c o.on.0 o.on.1 in elim (width-at D (suc i)) [ inl e ↦ t.nodes i b (omega arith) | inr e ↦ absurd (omega arith) ]

pub tidy-stays : TidyStays
tidy-stays D = (λ t. sym ((tidy-means D D).0 (tidy-same D t)), λ e. same-tidy D ((tidy-means D D).1 (sym e)))

-- ---- where each node of a layer has an in-arc and an out-arc
-- from each node there is a way on to the end
way_on : (M : Layer) (Ls : Net) → IsLed M → IsTied (M ∷ Ls) → (a : ℕ) → a < length M → (w : List ℕ) × PathFrom (M ∷ Ls) a w
way_on M [] led t a h = let s = led a h in (s.0 ∷ [], (s.1, s.2, omega (arith, t a s.0 s.1 s.2)))
way_on M (N ∷ Ls) led t a h =
    let s = led a h in let x = way_on N Ls t.2 t.3 s.1 (t.0 a s.0 s.1 s.2) in (s.0 ∷ x.0, (s.1, s.2, x.1))

-- after the first layer a path leads on from each node
pub leads-at : (D : Net) (i a : ℕ) → IsTied D → 1 ≤ i → i ≤ length D → a < width (drop i D) → (w : List ℕ) × PathFrom (drop i D) a w
leads-at (L ∷ []) (suc zero) a t lo hi h = ([], omega arith)
leads-at (L ∷ M ∷ Ls) (suc zero) a t lo hi h = way_on M Ls t.2 t.3 a h
leads-at (L ∷ M ∷ Ls) (suc (suc i)) a t lo hi h = leads-at (M ∷ Ls) (suc i) a t.3 (omega arith) (le_of_suc-le-suc hi) h
leads-at D i a t lo hi h = absurd (omega arith)

pub ranged-at : (D : Net) (d : ℕ) → IsTied D → d < length D → IsRanged (get_or D d []) (width (drop (suc d) D))
ranged-at (L ∷ []) zero t h = t
ranged-at (L ∷ M ∷ Ls) zero t h = t.0
ranged-at (L ∷ M ∷ Ls) (suc d) t h = ranged-at (M ∷ Ls) d t.3 (le_of_suc-le-suc h)
ranged-at D d t h = absurd (omega arith)

pub path-push : (D : Net) (x a k b : ℕ) (p : List ℕ) → PathTo D x p a → target (node (get_or D (length p) []) a) k ≡ suc b → PathTo D x (p ++ (k ∷ [])) b
path-push (L ∷ Ls) x a k b [] q e = (b, rw q e, refl)
path-push (L ∷ Ls) x a k b (j ∷ p) q e = (q.0, q.1, path-push Ls q.0 a k b p q.2 e)
path-push [] x a k b [] q e = absurd (omega (arith, has-arc [] a k b e))
path-push [] x a k b (j ∷ p) q e = absurd q

-- and a way to it
way-to : (D : Net) → width D ≡ 1 → IsTied D → (i b : ℕ) → i < length D → b < length (layer_of D i) → (w : List ℕ) × PathTo D 0 w b × (length w ≡ i)
way-to [] o t i b lo h = absurd (not-suc-le-zero lo)
way-to (L ∷ Ls) o t zero b lo h = ([], omega arith, refl)
way-to (L ∷ Ls) o t (suc i) b lo h =
    let s = fed-at (L ∷ Ls) i b t h in
    let p = way-to (L ∷ Ls) o t i s.0 (omega arith) (has-arc (layer_of (L ∷ Ls) i) s.0 s.1 b s.2) in
    (p.0 ++ (s.1 ∷ []), path-push (L ∷ Ls) 0 s.0 s.1 b p.0 p.1 (rw p.2 s.2), length-snoc p.0 s.1 ∙ ap suc p.2)
  where
    fed-at : (D : Net) (i b : ℕ) → IsTied D → b < length (layer_of D (suc i)) → (a : ℕ) × (j : ℕ) × (target (node (layer_of D i) a) j ≡ suc b)
    fed-at (L ∷ M ∷ Ls) zero b t h = t.1 b h
    fed-at (L ∷ M ∷ Ls) (suc i) b t h = fed-at (M ∷ Ls) i b t.3 h
    fed-at D i b t h = absurd (omega arith)

at-within : (D : Net) (i b : ℕ) → b < length (layer_of D i) → i < length D
at-within [] i b h = absurd (omega arith)
at-within (L ∷ D) i b h = grind (arith, h, at-within D (i - 1) b)

-- so nothing is to go
pub tidied-same : (D : Net) → width D ≡ 1 → IsTied D → tidied_arcs D ≡ D
tidied-same D o t = (tidy-stays D).0 (record {
  nodes = λ i b h. let k = at-within D (suc i) b h in let p = way-to D o t (suc i) b k h in
      record { to = (p.0, (p.1, p.2)); on = leads-at D (suc i) b t (omega arith) (omega arith) (within D (suc i) b h) };
  arcs = λ i a j b e. let h = has-arc (layer_of D i) a j b e in let k = at-within D i a h in let p = way-to D o t i a k h in
      record {
        to = (p.0 ++ (j ∷ []), (path-push D 0 a j b p.0 p.1 (rw p.2 e), length-snoc p.0 j ∙ ap suc p.2));
        on = leads-at D (suc i) b t (omega arith) k (ranged-at D i t k a j b e);
      };
})
  where
    within : (D : Net) (i b : ℕ) → b < length (layer_of D i) → b < width (drop i D)
    within [] i b h = absurd (omega arith)
    within (L ∷ D) i b h = grind (arith, h, within D (i - 1) b)
