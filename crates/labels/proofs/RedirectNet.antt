-- Records with the arcs of a layer, and the same after each arc is redirected
use Rattle.std.proofs.Common.{◌≡◌, ℕ, zero, suc, ◌<◌, ◌≤◌, List, [], ◌∷◌, map, length, get_or, sym, refl, ap, ◌∙◌, arith}
use Rattle.std.specs.List.{range_with_len}
use Rattle.std.proofs.lemmas.List.{get_or-map, get_or_default, length-map}
use Rattle.layers.specs.declared.node.Arcs.{Arcs}
use Rattle.layers.specs.declared.node.Node.{Node}
use Rattle.layers.specs.Net.{table, Outs, Layer, node, target, each_door, each_node, redirect}
use Rattle.layers.specs.Records.{padded_targets, arcs_at}
use Rattle.layers.proofs.Flows.{table_at, has-arc, redirect-get}
use Rattle.labels.proofs.Laying.{arcs_of, mapped-long, mapped-at, mapped-is}
pub use Rattle.labels.proofs.Laying.{table-list}
use Rattle.layers.proofs.Tied.{each_door-length}
use Rattle.layers.specs.Targets.{targets, redirected, at_door}

-- ---- lists
-- sixteen targets that are those of a node, door by door
pub padded-is : (ts : List ℕ) (nd : Outs) → length ts ≡ 16 → ((k : ℕ) → k < 16 → get_or ts k 0 ≡ get_or nd k 0) → ts ≡ padded_targets nd
padded-is ts nd e h = table-list 16 (λ k. get_or nd k 0) ts e (λ k d lt. get_or_default ts k d 0 (omega arith) ∙ h k lt)

pub padded-at : (nd : Outs) (k : ℕ) → k < 16 → get_or (padded_targets nd) k 0 ≡ get_or nd k 0
padded-at nd k lt = table_at 16 k (λ i. get_or nd i 0) 0 lt

-- ---- redirecting
each_at : (f : ℕ → ℕ → ℕ) (ts : Outs) (k : ℕ) → get_or (each_door f 1 ts) k 0 ≡ at_door f (suc k) (get_or ts k 0)
unfolding redirect each_node
each_at f ts k = redirect-get (λ a. f) (ts ∷ []) 0 (suc k)

at_same : (g h : ℕ → ℕ → ℕ) (j t : ℕ) → ((b : ℕ) → t ≡ suc b → g j b ≡ h j b) → at_door g j t ≡ at_door h j t
at_same g h j zero s = refl
at_same g h j (suc b) s = s b refl

-- ---- records
module _ {S V : Type 0} where
  pub arranged-long : (w : ℕ) (L : Layer) (us : List (Node S V)) → map arcs_of us ≡ table w (arcs_at L) → length us ≡ w
  arranged-long w L us e = mapped-long arcs_of (arcs_at L) w us e

  pub arcs-arranged : (w : ℕ) (L : Layer) (us : List (Node S V)) (a : ℕ) (d : Node S V) → map arcs_of us ≡ table w (arcs_at L) → a < w → (get_or us a d).arcs ≡ arcs_at L a
  arcs-arranged w L us a d e lt = mapped-at arcs_of (arcs_at L) w us a d e lt

  pub targets-is : (x : Node S V) (nd : Outs) → x.arcs.to ≡ padded_targets nd → targets x ≡ padded_targets nd
  unfolding targets
  targets-is x nd e = ap (λ (ts : List ℕ). map (λ k. get_or ts k 0) (range_with_len 0 16)) e

  -- the targets of a record are those of the node
  pub targets-arranged : (w : ℕ) (L : Layer) (us : List (Node S V)) (a : ℕ) (d : Node S V) → map arcs_of us ≡ table w (arcs_at L) → a < w → targets (get_or us a d) ≡ padded_targets (node L a)
  targets-arranged w L us a d e lt = targets-is (get_or us a d) (node L a) (ap (λ (x : Arcs). x.to) (arcs-arranged w L us a d e lt))

  pub redirected-arcs : (g : ℕ → ℕ → ℕ) (x : Node S V) → (redirected g x).arcs ≡ record { to = each_door g 1 (targets x) }
  unfolding redirected
  redirected-arcs g x = refl

  -- a layer of records, redirected, has the arcs of the redirected layer
  pub redirect-arranged : (w : ℕ) (L : Layer) (us : List (Node S V)) (F : Node S V → ℕ → ℕ → ℕ) (f : ℕ → ℕ → ℕ → ℕ) → length L ≤ w → map arcs_of us ≡ table w (arcs_at L)
      → ((d : Node S V) (a j b : ℕ) → a < length L → target (node L a) j ≡ suc b → F (get_or us a d) j b ≡ f a j b)
      → map arcs_of (map (λ u. redirected (F u) u) us) ≡ table w (arcs_at (redirect f L))
  redirect-arranged w L us F f le e s =
      let r = λ (u : Node S V). redirected (F u) u in
      let many = arranged-long w L us e in
      mapped-is arcs_of (arcs_at (redirect f L)) w (map r us) (length-map us r ∙ many)
      (λ a d lt.
      let u = get_or us a d in
      ap (λ (x : Node S V). x.arcs) (get_or-map r us a d d (omega (arith, many)))
      ∙ redirected-arcs (F u) u
      ∙ ap (λ (ts : List ℕ). record { to = each_door (F u) 1 ts }) (targets-arranged w L us a d e lt)
      ∙ ap (λ (ts : List ℕ). record { to = ts })
      (padded-is (each_door (F u) 1 (padded_targets (node L a))) (node (redirect f L) a) (each_door-length (F u) 1 (padded_targets (node L a))) (λ k h.
      each_at (F u) (padded_targets (node L a)) k ∙ ap (at_door (F u) (suc k)) (padded-at (node L a) k h)
      ∙ at_same (F u) (f a) (suc k) (get_or (node L a) k 0) (λ b t. s d a (suc k) b (has-arc L a (suc k) b t) t) ∙ sym (redirect-get f L a (suc k)))))
