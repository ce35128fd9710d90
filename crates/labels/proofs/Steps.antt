use Rattle.std.proofs.Common.{◌≡◌, ℕ, zero, suc, ◌+◌, ◌-◌, ◌<◌, ◌≤◌, ◌≢◌, List, [], ◌∷◌, ◌++◌, map, length, get_or, take, drop, set, Some, None, fold, Option, refl, ap, ◌∙◌, arith}
use Rattle.std.specs.List.{flat_map}
use Rattle.std.proofs.lemmas.Bool.Decides.{nat_tests}
use Rattle.std.proofs.lemmas.Grind.{common_steps}
use Rattle.std.proofs.lemmas.List.{drop_all}
use Rattle.std.specs.Option.{unwrap_or}
use Rattle.round.specs.declared.table.Round.{Round}
use Rattle.layers.specs.declared.node.Node.{Node}
use Rattle.layers.specs.declared.node.Up.{Up}
use Rattle.layers.specs.Settings.{Setting}
use Rattle.layers.specs.Labels.{leg, merge_up, no_up}
use Rattle.labels.specs.Passes.{numbered, climb_held, up_by, gathered_up, taken_up, ended, renewed, risen, risen_from, next_renewed, renewed_after}
use Rattle.labels.proofs.Climbs.{numbered-at}
use Rattle.labels.proofs.Folds.{folded-view}

-- a fold over what each brings, one by one
pub fold_joined : {X A B : Type 0} (f : B → A → B) (F : X → List A) (a : B) (xs : List X) → fold (λ b x. fold f b (F x)) a xs ≡ fold f a (flat_map F xs)
fold_joined f F a xs = folded-view (λ _. Unit {0}) (λ b. b) (λ b x. fold f b (F x)) f F (λ b x h. h) (λ b x h. refl) a xs tt

taken-some : (a : Up) (xs : List Up) → fold taken_up (Some a) xs ≡ Some (fold merge_up a xs)
taken-some a [] = refl
taken-some a (x ∷ xs) = taken-some (merge_up a x) xs

pub taken_gathered : (xs : List Up) → unwrap_or (fold taken_up None xs) no_up ≡ gathered_up xs
unfolding gathered_up
taken_gathered [] = refl
taken_gathered (x ∷ xs) = ap (λ o. unwrap_or o no_up) (taken-some x xs)

-- one more, if there is one
pub taken_more : (got : Option Up) (xs : List Up) (x : Up) → fold taken_up None xs ≡ Some x → length xs ≤ 1 → fold taken_up got xs ≡ taken_up got x
taken_more got [] x e few = absurd cc
taken_more got (y ∷ []) x e few = let same : y ≡ x = cc in ap (taken_up got) same
taken_more got (y ∷ z ∷ xs) x e few = absurd (omega arith)

pub taken_none : (got : Option Up) (xs : List Up) → fold taken_up None xs ≡ None → fold taken_up got xs ≡ got
taken_none got [] e = refl
taken_none got (y ∷ xs) e = absurd (let some = taken-some y xs in cc)

-- over one door no more than one climbs, and that from its target
pub up_by-few : {S V : Type 0} (r : Round) (vs : List (Node S V)) (u : Node S V) (k : ℕ) → length (up_by r vs u k) ≤ 1
unfolding up_by
up_by-few r vs u k = grind (arith, common_steps)

numbered-one : {X : Type 0} (t : ℕ) (vs : List X) (d : X) → t ≢ 0 → t ≤ length vs → numbered t vs ≡ get_or vs (t - 1) d ∷ []
numbered-one zero vs d ne le = absurd (ne refl)
numbered-one (suc b) vs d ne le = let less : b ≡ suc b - 1 = omega arith in numbered-at b vs d (omega arith) ∙ ap (λ (k : ℕ). get_or vs k d ∷ []) less

pub up_by-one : {S V : Type 0} (r : Round) (vs : List (Node S V)) (u : Node S V) (k g : ℕ) (d : Node S V) → get_or u.arcs.to k 0 ≢ 0 → get_or u.arcs.to k 0 ≤ length vs → g ≡ leg r u.label.down.lasts (k + 1)
    → fold taken_up None (up_by r vs u k) ≡ Some (climb_held r g (get_or vs (get_or u.arcs.to k 0 - 1) d).label.up (k + 1))
unfolding up_by
up_by-one r vs u k g d ne le e = rw (numbered-one (get_or u.arcs.to k 0) vs d ne le, e) refl

numbered-none : {X : Type 0} (t : ℕ) (vs : List X) → (t ≢ 0 → length vs < t) → numbered t vs ≡ []
numbered-none t vs h = grind (arith, common_steps, nat_tests, drop_all)

pub up_by_none : {S V : Type 0} (r : Round) (vs : List (Node S V)) (u : Node S V) (k : ℕ) → (get_or u.arcs.to k 0 ≢ 0 → length vs < get_or u.arcs.to k 0) → fold taken_up None (up_by r vs u k) ≡ None
unfolding up_by
up_by_none r vs u k h = rw (numbered-none (get_or u.arcs.to k 0) vs h) refl

-- ---- the first of a list
pub first_set : {X : Type 0} (f : X → X) (ys : List X) (d : X) → 0 < length ys → set ys 0 (f (get_or ys 0 d)) ≡ map f (take 1 ys) ++ drop 1 ys
first_set f ys d h = grind (arith, common_steps)

-- the first anew, then what is done to it
pub end_set : {X : Type 0} (g : List X → List X) (f : X → X) (ys : List X) (d : X) → 0 < length ys
    → g (take 1 (set ys 0 (f (get_or ys 0 d)))) ++ drop 1 (set ys 0 (f (get_or ys 0 d))) ≡ g (map f (take 1 ys)) ++ drop 1 ys
end_set g f [] d h = absurd (omega arith)
end_set g f (y ∷ ys) d h = refl

-- ---- a loop over the nodes of a layer: what it leaves, so far and to come
module _ {S V : Type 0} (f : Node S V → Node S V) where
  pub renewed_more : (xs : List (Node S V)) (i : ℕ) (d : Node S V) → i < length xs → (get_or xs i d).label.down.lasts ≢ 0
      → take (i + 1) (set xs i (f (get_or xs i d))) ++ renewed f (drop (i + 1) (set xs i (f (get_or xs i d)))) ≡ take i xs ++ renewed f (drop i xs)
  renewed_more xs i d lt ne = grind (arith, common_steps, nat_tests)

  pub renewed_stop : (xs : List (Node S V)) (i : ℕ) (d : Node S V) → i < length xs → (get_or xs i d).label.down.lasts ≡ 0 → set xs i (get_or xs i d) ≡ take i xs ++ renewed f (drop i xs)
  renewed_stop xs i d lt e = grind (arith, common_steps, nat_tests)

  pub renewed_all : (xs : List (Node S V)) (i : ℕ) → length xs ≤ i → take i xs ++ renewed f (drop i xs) ≡ xs
  renewed_all xs i le = grind (arith, common_steps, drop_all)

-- ---- from a layer on
module _ {S V : Type 0} (r : Round) (w : ℕ) where
  pub risen_last : (xs : List (Node S V)) (d : Node S V) → 0 < length (drop w xs)
      → let rest = set (drop w xs) 0 (ended (get_or (drop w xs) 0 d)) in renewed (risen r (take 1 rest)) (take w xs) ++ rest ≡ risen_from r w 0 xs
  unfolding risen_from
  risen_last xs d h = rw (first_set ended (drop w xs) d h)

  pub risen_more : (k : ℕ) (xs : List (Node S V)) → k ≢ 0
      → risen_from r w k xs ≡ renewed (risen r (take w (risen_from r w (k - 1) (drop w xs)))) (take w xs) ++ risen_from r w (k - 1) (drop w xs)
  unfolding risen_from
  risen_more zero xs ne = absurd (ne refl)
  risen_more (suc k) xs ne = let e : suc k - 1 ≡ k = omega arith in rw e

-- ---- a pass down with a layer more to go
pub after_more : {S V : Type 0} (by : Setting S V) (k : ℕ) (xs : List (Node S V)) → k ≢ 0
    → renewed_after by k xs ≡ take by.width xs ++ renewed_after by (k - 1) (next_renewed by (take by.width xs) (take by.width (drop by.width xs)) ++ drop by.width (drop by.width xs))
unfolding renewed_after
after_more by zero xs ne = absurd (ne refl)
after_more by (suc k) xs ne = let e : suc k - 1 ≡ k = omega arith in rw e
