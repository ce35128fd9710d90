-- Orders of the doors of a set that keep pairs and load, by their last door.
use Rattle.std.proofs.Common.{◌≡◌, ℕ, suc, ◌+◌, ◌-◌, ◌^◌, ◌<◌, Bool, true, false, ◌⊎◌, List, [], ◌∷◌, ◌++◌, sym, refl, ap, ◌∙◌, inl, inr, ⊎_elim, subst, length-append, arith}
use Rattle.std.proofs.lemmas.Bool.{cases_eq, false≢true}
use Rattle.std.proofs.lemmas.List.{get_or_push, get_or_append_left}
use Rattle.std.specs.Prelude.{bit_and, slice_index, ◌↔◌, length, Option, Some, None, MatchOption, is_some}
use Rattle.doors.specs.Orders.{StandsIn, IsDoor, IsPartOrder}
use Rattle.doors.specs.Sets.{Has, set_of}
use Rattle.doors.proofs.Orders.{in-middle, each_none, part-next, next-part, each-front, each_last, each_more}
use Rattle.doors.proofs.Sets.{has-set, within-and, and-within}
use Rattle.round.specs.declared.table.Round.{Round}
use Rattle.rules.specs.Loads.{load_of}
use Rattle.outlook.specs.LoadOrders.{FitsVan, KeepsLoad, KeepsLoadWithin, CanBeLast, AreKept}
use Rattle.outlook.proofs.DoorSets.{in_set, set-last, full-set, set-full}
use Rattle.outlook.proofs.LoadSums.{same-load}

-- an order of the doors of m that ends at j
module _ (r : Round) (ahead : List ℕ) (m : ℕ) (u : List ℕ) (j : ℕ) where
  pub last-has : KeepsLoadWithin r ahead m (u ++ j ∷ []) → Has m j
  last-has k = subst (λ (s : ℕ). Has s j) k.just (in_set (u ++ j ∷ []) j (in-middle u [] j))

  pub last-door : KeepsLoadWithin r ahead m (u ++ j ∷ []) → IsDoor r.n j
  last-door k = (part-next r.n u j [] k.part).door

  pub last-load : KeepsLoadWithin r ahead m (u ++ j ∷ []) → FitsVan r (load_of r.load r.doors (u ++ j ∷ []))
  last-load k = each_last _ u j k.within

  -- rest has the other doors of m
  module _ (rest : ℕ) (e : rest + 2 ^ j ≡ m) where
    front-set : KeepsLoadWithin r ahead m (u ++ j ∷ []) → set_of u ≡ rest
    front-set k = omega (arith, set-last u j (part-next r.n u j [] k.part).new, k.just)

    pub front-keeps : KeepsLoadWithin r ahead m (u ++ j ∷ []) → KeepsLoadWithin r ahead rest u
    front-keeps k = record {
      part = (part-next r.n u j [] k.part).part;
      just = front-set k;
      ordered = each-front _ u (j ∷ []) k.ordered;
      within = each-front _ u (j ∷ []) k.within;
    }

    pub front-ahead : KeepsLoadWithin r ahead m (u ++ j ∷ []) → bit_and (slice_index ahead j) rest ≡ slice_index ahead j
    front-ahead k =
        within-and (slice_index ahead j) rest
        (λ i p. subst (λ (s : ℕ). Has s i) (front-set k) (in_set u i (each_last _ u j k.ordered i p)))

    front-gone : KeepsLoadWithin r ahead m (u ++ j ∷ []) → ¬ Has rest j
    front-gone k h = (part-next r.n u j [] k.part).new (has-set u j (subst (λ (s : ℕ). Has s j) (sym (front-set k)) h))

    -- the other way round: j can be added to an order of the other doors
    pub keeps-more : KeepsLoadWithin r ahead rest u → IsDoor r.n j → ¬ Has rest j → bit_and (slice_index ahead j) rest ≡ slice_index ahead j
        → ((w : List ℕ) → IsPartOrder r.n w → set_of w ≡ m → FitsVan r (load_of r.load r.doors w))
        → KeepsLoadWithin r ahead m (u ++ j ∷ [])
    keeps-more k door gone after load =
        let new : ¬ StandsIn j u = λ h. gone (subst (λ (s : ℕ). Has s j) k.just (in_set u j h)) in
        let part = next-part r.n u j k.part door new in
        let just : set_of (u ++ j ∷ []) ≡ m = omega (arith, set-last u j new, k.just) in
        record {
          part = part;
          just = just;
          ordered = each_more _ u j k.ordered (λ i p. has-set u i (subst (λ (s : ℕ). Has s i) (sym k.just) (and-within (slice_index ahead j) rest i after p)));
          within = each_more _ u j k.within (load (u ++ j ∷ []) part just);
        }

-- a list is empty or ends at some door
ends : (w : List ℕ) → (w ≡ []) ⊎ ((u : List ℕ) × (j : ℕ) × (w ≡ u ++ j ∷ []))
ends [] = inl refl
ends (x ∷ w) = ⊎_elim (λ e. inr ([], x, ap (λ (v : List ℕ). x ∷ v) e)) (λ h. inr (x ∷ h.0, h.1, ap (λ (v : List ℕ). x ∷ v) h.2)) (ends w)

module _ (r : Round) (ahead : List ℕ) where
  -- where no door can come last, the only order is the empty one
  pub no-last : (m : ℕ) → ((j : ℕ) → IsDoor r.n j → ¬ CanBeLast r ahead m j) → (w : List ℕ) → KeepsLoadWithin r ahead m w → w ≡ []
  no-last m none w k =
      ⊎_elim (λ e. e) (λ h. let l = subst (KeepsLoadWithin r ahead m) h.2 k in absurd (none h.1 (last-door r ahead m h.0 h.1 l) (h.0, l))) (ends w)

  -- the empty set and the set of all doors
  pub keeps-none : KeepsLoadWithin r ahead 0 []
  keeps-none = record { part = tt; just = refl; ordered = each_none _; within = each_none _ }

  pub keeps-all : (w : List ℕ) → KeepsLoadWithin r ahead (2 ^ suc r.n - 2) w → KeepsLoad r ahead w
  keeps-all w k = record { full = record { part = k.part; whole = set-full r.n w k.part k.just }; ordered = k.ordered; within = k.within }

  pub all-keeps : (w : List ℕ) → KeepsLoad r ahead w → KeepsLoadWithin r ahead (2 ^ suc r.n - 2) w
  all-keeps w k = record { part = k.full.part; just = full-set r.n w k.full.part k.full.whole; ordered = k.ordered; within = k.within }

  -- before a last door any other order of the doors before it can stand
  pub other-front : (m rest : ℕ) (u v : List ℕ) (j : ℕ) → rest + 2 ^ j ≡ m → KeepsLoadWithin r ahead m (u ++ j ∷ []) → KeepsLoadWithin r ahead rest v
      → KeepsLoadWithin r ahead m (v ++ j ∷ [])
  other-front m rest u v j e k l =
      keeps-more r ahead m v j rest e l (last-door r ahead m u j k) (front-gone r ahead m u j rest e k) (front-ahead r ahead m u j rest e k)
      (λ w p s. subst (FitsVan r) (same-load r.load r.doors r.n (u ++ j ∷ []) w k.part p (k.just ∙ sym s)) (last-load r ahead m u j k))

  -- a set with a door has an order exactly if some door can come last
  pub kept-exactly : (m : ℕ) (o : Option ℕ) → ¬ (m ≡ 0) → MatchOption o ((j : ℕ) → IsDoor r.n j → ¬ CanBeLast r ahead m j) (CanBeLast r ahead m)
      → (is_some o ≡ true) ↔ ((w : List ℕ) × KeepsLoadWithin r ahead m w)
  kept-exactly m None some h = (λ t. absurd (false≢true t), λ k. absurd (some (sym k.1.just ∙ ap set_of (no-last m h k.0 k.1))))
  kept-exactly m (Some j) some h = (λ _. (h.0 ++ j ∷ [], h.1), λ _. refl)

  -- one more entry of the table
  pub kept_more : (kept : List Bool) (b : Bool) → AreKept r ahead kept → (b ≡ true) ↔ ((w : List ℕ) × KeepsLoadWithin r ahead (length kept) w)
      → AreKept r ahead (kept ++ b ∷ [])
  kept_more kept b h e m l =
      ⊎_elim (λ q. rw (get_or_push kept b false m (sym q), q) e)
      (λ n. let below : m < length kept = omega (arith, length-append kept (b ∷ [])) in rw (get_or_append_left kept (b ∷ []) false m below) (h m below))
      (cases_eq m (length kept))
