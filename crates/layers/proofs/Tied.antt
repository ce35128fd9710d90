-- After tidying, every node lies on a path.
use Rattle.std.proofs.Common.{◌≡◌, ℕ, zero, suc, ◌<◌, Bool, true, false, List, [], ◌∷◌, length, get_or, Some, None, Option, sym, refl, ap, ◌∙◌, le_of_suc-le-suc, not-suc-le-zero, arith, cond}
use Rattle.std.proofs.lemmas.Bool.{false≢true}
use Rattle.std.proofs.lemmas.List.{ext_get_or}
use Rattle.layers.specs.Net.{Outs, Layer, Net, node, target, width, each_door, each_node, redirect}
use Rattle.layers.specs.Tidy.{Mark, marks_next, marks_up, flags, rank, compress, renumber, tidy, tidied_arcs}
use Rattle.layers.specs.Lawful.{IsRanged, IsLed, IsTied}
use Rattle.layers.specs.Targets.{at_door}
use Rattle.layers.proofs.Flows.{ups-within, arc-stays, next-all, up-all, redirect-get, has-arc, up_at, flags-at, compress-at, rank-zero}

-- ---- redirecting, backwards
pub redirect-back : (f : ℕ → ℕ → ℕ → ℕ) (L : Layer) (a j c : ℕ) → target (node (redirect f L) a) j ≡ suc c → (b : ℕ) × (target (node L a) j ≡ suc b) × (f a j b ≡ suc c)
redirect-back f L a j c e = go (target (node L a) j) refl (sym (redirect-get f L a j) ∙ e)
  where
    go : (t : ℕ) → target (node L a) j ≡ t → at_door (f a) j t ≡ suc c → (b : ℕ) × (target (node L a) j ≡ suc b) × (f a j b ≡ suc c)
    go zero h g = absurd (omega arith)
    go (suc b) h g = (b, h, g)

-- where some arcs are taken out, the others stay
pub kept-back : (t : ℕ → ℕ → ℕ → Bool) (L : Layer) (a j c : ℕ) → target (node (redirect (λ a j b. cond (t a j b) 0 (suc b)) L) a) j ≡ suc c → target (node L a) j ≡ suc c
kept-back t L a j c e = let q = redirect-back (λ a j b. cond (t a j b) 0 (suc b)) L a j c e in let x = q.1 in let y = q.2 in grind (arith, x, y)

each_node-length : (f : ℕ → ℕ → ℕ → ℕ) (i : ℕ) (L : Layer) → length (each_node f i L) ≡ length L
unfolding each_node
each_node-length f i [] = refl
each_node-length f i (nd ∷ L) = ap suc (each_node-length f (suc i) L)

pub redirect-length : (f : ℕ → ℕ → ℕ → ℕ) (L : Layer) → length (redirect f L) ≡ length L
unfolding redirect
redirect-length f L = each_node-length f 0 L

pub each_door-length : (f : ℕ → ℕ → ℕ) (j : ℕ) (ts : Outs) → length (each_door f j ts) ≡ length ts
unfolding each_door
each_door-length f j [] = refl
each_door-length f j (t ∷ ts) = grind (arith, each_door-length f (suc j) ts)

each_node-long : (f : ℕ → ℕ → ℕ → ℕ) (c : ℕ) (L : Layer) (a : ℕ) → length (node (each_node f c L) a) ≡ length (node L a)
unfolding each_node
each_node-long f c [] a = refl
each_node-long f c (nd ∷ L) a = grind (arith, each_door-length (f c) 1 nd, each_node-long f (suc c) L)

pub redirect-long : (f : ℕ → ℕ → ℕ → ℕ) (L : Layer) (a : ℕ) → length (node (redirect f L) a) ≡ length (node L a)
unfolding redirect
redirect-long f L a = each_node-long f 0 L a

-- ---- only arcs that are there matter
pub redirect-cong : (f g : ℕ → ℕ → ℕ → ℕ) (L : Layer) → ((a j b : ℕ) → target (node L a) j ≡ suc b → f a j b ≡ g a j b) → redirect f L ≡ redirect g L
redirect-cong f g L h = ext_get_or [] (redirect f L) (redirect g L) (redirect-length f L ∙ sym (redirect-length g L)) (λ a lt.
    ext_get_or 0 (node (redirect f L) a) (node (redirect g L) a) (redirect-long f L a ∙ sym (redirect-long g L a))
    (λ k in'. grind (arith, redirect-get f L a (suc k), redirect-get g L a (suc k), h a (suc k))))

pub redirect-same : (f : ℕ → ℕ → ℕ → ℕ) (L : Layer) → ((a j b : ℕ) → target (node L a) j ≡ suc b → f a j b ≡ suc b) → redirect f L ≡ L
redirect-same f L h = ext_get_or [] (redirect f L) L (redirect-length f L) (λ a lt.
    ext_get_or 0 (node (redirect f L) a) (node L a) (redirect-long f L a) (λ k in'. grind (arith, redirect-get f L a (suc k), h a (suc k))))

-- ---- flags
pub flags-back : (fr us : List (Option Mark)) (a : ℕ) → get_or (flags fr us) a false ≡ true → (get_or fr a None ≡ Some tt) × (get_or us a None ≡ Some tt)
unfolding flags
flags-back (x ∷ fr) (u ∷ us) a e = grind (arith, e, flags-back fr us)
flags-back fr us a e = absurd (false≢true e)

rank_lt : (fs : List Bool) (X : Layer) (b : ℕ) → get_or fs b false ≡ true → b < length X → rank fs b < length (compress fs X)
unfolding rank compress
rank_lt [] X b e h = absurd (false≢true e)
rank_lt (f ∷ fs) [] b e h = absurd (not-suc-le-zero h)
rank_lt (f ∷ fs) (x ∷ X) b e h = grind (arith, e, rank_lt fs X)

pub compress-back : (fs : List Bool) (X : Layer) (c : ℕ) → c < length (compress fs X) → (b : ℕ) × (get_or fs b false ≡ true) × (rank fs b ≡ c) × (b < length X)
unfolding rank compress
compress-back (true ∷ fs) (x ∷ X) zero h = (0, refl, refl, omega arith)
compress-back (true ∷ fs) (x ∷ X) (suc c) h = let q = compress-back fs X c (le_of_suc-le-suc h) in (suc q.0, q.1, ap suc q.2, omega arith)
compress-back (false ∷ fs) (x ∷ X) c h = let q = compress-back fs X c h in (suc q.0, q.1, q.2, omega arith)
compress-back fs X c h = absurd (omega arith)

-- an arc that is left, renumbered
pub stayed-arc : (fs : List Bool) (L : Layer) (a j c : ℕ) → target (node (redirect (λ a j b. renumber fs b) L) a) j ≡ suc c → (b : ℕ) × (target (node L a) j ≡ suc b) × (get_or fs b false ≡ true) × (rank fs b ≡ c)
unfolding renumber
stayed-arc fs L a j c e = let q = redirect-back (λ a j b. renumber fs b) L a j c e in let x = q.2 in (q.0, q.1, grind (arith, x), grind (arith, x))

-- ---- what marks say
pub marked_from : (fr : List (Option Mark)) (L : Layer) (count b : ℕ) → get_or (marks_next fr L count) b None ≡ Some tt → (a : ℕ) × (j : ℕ) × (target (node L a) j ≡ suc b) × (get_or fr a None ≡ Some tt)
unfolding marks_next
marked_from fr L count b e = next-all {A = Mark} (λ m j. tt) (λ x y. tt) fr L count b tt (λ m. (a : ℕ) × (j : ℕ) × (target (node L a) j ≡ suc b) × (get_or fr a None ≡ Some tt)) (λ x y p q. p) (λ a j l f g. (a, j, f, g)) e

pub climbs-from : (L : Layer) (Ls : Net) (a : ℕ) → get_or (marks_up (L ∷ Ls)) a None ≡ Some tt → (j : ℕ) × (b : ℕ) × (target (node L a) j ≡ suc b) × (get_or (marks_up Ls) b None ≡ Some tt)
unfolding marks_up
climbs-from L Ls a e = up-all {A = Mark} (λ m k. tt) (λ x y. tt) tt L Ls a tt (λ m. (j : ℕ) × (b : ℕ) × (target (node L a) j ≡ suc b) × (get_or (marks_up Ls) b None ≡ Some tt)) (λ x y p q. p) (λ j b u f g. (j, b, f, g)) e

pub climbs : (L : Layer) (Ls : Net) (a j b : ℕ) → target (node L a) j ≡ suc b → get_or (marks_up Ls) b None ≡ Some tt → get_or (marks_up (L ∷ Ls)) a None ≡ Some tt
unfolding marks_up
climbs L Ls a j b e g = (up_at {A = Mark} (λ x y. tt) (λ x. Unit {0}) (λ x y p. tt) (λ x y p. tt) (λ m k. tt) tt L Ls a j b tt e g tt).1

-- ---- a layer and the next
module _ (fr : List (Option Mark)) (L : Layer) (Ls : Net) where
  abbrev fr' : List (Option Mark)
  fr' = marks_next fr L (width Ls)

  abbrev fs : List Bool
  fs = flags fr' (marks_up Ls)

  abbrev RL : Layer
  RL = redirect (λ a j b. renumber fs b) L

  -- every arc that is left leads to a node that is left
  arcs-lead : (X : Layer) → length X ≡ width Ls → IsRanged RL (length (compress fs X))
  arcs-lead X n a j c e =
      let q = stayed-arc fs L a j c e in
      let w = ups-within Ls q.0 (flags-back fr' (marks_up Ls) q.0 q.2).1 in
      rw (← q.3) (rank_lt fs X q.0 q.2 (omega arith))

  -- every node that is left is led to, from a node that is left
  fed_by : (X : Layer) (c : ℕ) → c < length (compress fs X) → (a : ℕ) × (j : ℕ) × (target (node RL a) j ≡ suc c) × (get_or fr a None ≡ Some tt) × (get_or (marks_up (L ∷ Ls)) a None ≡ Some tt)
  fed_by X c h =
      let q = compress-back fs X c h in
      let b = q.0 in
      let m = flags-back fr' (marks_up Ls) b q.1 in
      let s = marked_from fr L (width Ls) b m.0 in
      (s.0, s.1, (arc-stays fr L Ls s.0 s.1 b s.3 s.2 m.1).1 ∙ ap suc q.2, s.3, climbs L Ls s.0 s.1 b s.2 m.1)

  -- every node that is left leads on
  leads-on : IsLed (compress (flags fr (marks_up (L ∷ Ls))) RL)
  leads-on c h =
      let gs = flags fr (marks_up (L ∷ Ls)) in
      let q = compress-back gs RL c h in
      let m = flags-back fr (marks_up (L ∷ Ls)) q.0 q.1 in
      let s = climbs-from L Ls q.0 m.1 in
      (s.0, rank fs s.1, ap (λ (z : ℕ). target (node (compress gs RL) z) s.0) (sym q.2) ∙ rw (compress-at gs RL q.0 q.1) (arc-stays fr L Ls q.0 s.0 s.1 m.0 s.2 s.3).1)

ranged-compress : (gs : List Bool) (X : Layer) (m : ℕ) → IsRanged X m → IsRanged (compress gs X) m
ranged-compress gs X m h c j b e =
    let q = compress-back gs X c (has-arc (compress gs X) c j b e) in
    h q.0 j b (rw (← (compress-at gs X q.0 q.1), q.2) e)

ranged-end : (fr : List (Option Mark)) (L : Layer) → IsRanged (RL fr L []) 1
ranged-end fr L a j c e =
    let q = stayed-arc (fs fr L []) L a j c e in
    let w = ups-within [] q.0 (flags-back (fr' fr L []) (marks_up []) q.0 q.2).1 in
    let y = q.3 in
    grind (arith, w, y, rank-zero (fs fr L []))

tidy-tied : (fr : List (Option Mark)) (Ls : Net) → IsTied (tidy fr Ls)
unfolding tidy
tidy-tied fr [] = tt
tidy-tied fr (L ∷ []) = ranged-compress (flags fr (marks_up (L ∷ []))) (RL fr L []) 1 (ranged-end fr L)
tidy-tied fr (L ∷ M ∷ Ls) =
    let gs = flags fr (marks_up (L ∷ M ∷ Ls)) in
    let fr2 = marks_next fr L (length M) in
    let X = RL fr2 M Ls in
    let n = redirect-length (λ a j b. renumber (fs fr2 M Ls) b) M in (
      ranged-compress gs (RL fr L (M ∷ Ls)) (length (compress (fs fr L (M ∷ Ls)) X)) (arcs-lead fr L (M ∷ Ls) X n),
      (λ c h. let q = fed_by fr L (M ∷ Ls) X c h in
          (rank gs q.0, q.1, rw (compress-at gs (RL fr L (M ∷ Ls)) q.0 (flags-at fr (marks_up (L ∷ M ∷ Ls)) q.0 q.3 q.4)) q.2)),
      leads-on fr2 M Ls,
      tidy-tied fr2 (M ∷ Ls),
    )

pub tidied-tied : (Ls : Net) → IsTied (tidied_arcs Ls)
unfolding tidied_arcs tidy
tidied-tied [] = tt
tidied-tied (L ∷ []) = ranged-end (Some tt ∷ []) L
tidied-tied (L ∷ M ∷ Ls) =
    let fr = Some tt ∷ [] in
    let fr2 = marks_next fr L (length M) in
    let X = RL fr2 M Ls in
    let n = redirect-length (λ a j b. renumber (fs fr2 M Ls) b) M in
    (arcs-lead fr L (M ∷ Ls) X n, (λ c h. let q = fed_by fr L (M ∷ Ls) X c h in (q.0, q.1, q.2)), leads-on fr2 M Ls, tidy-tied fr2 (M ∷ Ls))
