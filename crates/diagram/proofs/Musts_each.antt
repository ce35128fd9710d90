-- The sets of musts, looked at for one door.
use Rattle.std.proofs.Common.{◌≡◌, ◌≢◌, ℕ, zero, suc, ◌+◌, ◌*◌, ◌<◌, ◌≤◌, ◌^◌, Bool, true, false, ◌&&◌, ◌⊎◌, List, get_or, map, inl, inr, ◌∙◌, sym, subst, arith}
use Rattle.std.proofs.lemmas.Bool.{cases_lt}
use Rattle.std.proofs.lemmas.Bool.Decides.{nat_tests}
use Rattle.std.proofs.lemmas.List.{get_or_past}
use Rattle.std.proofs.lemmas.List.FromFn.{get_or-map-range_with_len, length-map-range_with_len}
use Rattle.std.specs.List.{range_with_len}
use Rattle.doors.specs.Orders.{IsDoor, is_door}
use Rattle.doors.specs.Sets.{has}
use Rattle.layers.specs.declared.node.Node.{Node}
use Rattle.layers.specs.Calls.{must}
use Rattle.layers.specs.Claim.{MustMeans}
use Rattle.layers.proofs.Main.{must-means}
use Rattle.seek.specs.Rows.{fits}
use Rattle.seek.proofs.Views.{has_none, has-or, has_one}
use Rattle.diagram.specs.Musts.{set_where, must_of, behind, musts}

pub room-for : (n W long : ℕ) → 1 ≤ W → W ≤ 128 → n ≤ 16 → n * W + 1 ≤ long → fits n W long ≡ true
room-for n W long a b m h = grind (arith, nat_tests)

-- a door is in the set of a test exactly when the test says yes
has-where : (p : ℕ → Bool) (k j : ℕ) → has (set_where p k) j ≡ (is_door k j && p j)
unfolding set_where
has-where p zero j = grind (arith, nat_tests, has_none j)
has-where p (suc k) j =
    let rest = has-where p k j in
    let more = has-or (set_where p k) (2 ^ suc k) j in
    let one = has_one (suc k) j in
    grind (arith, nat_tests)

module _ {S V : Type 0} (n W : ℕ) (xs : List (Node S V)) where
  no-door : n ≤ 16 → (i j : ℕ) → (is_door 16 i && is_door 16 j) ≡ false → must_of n W xs i j ≡ false
  no-door most i j e = grind (arith, nat_tests)

  -- door j is in set i exactly when must(i, j) is answered yes
  pub musts-each : n ≤ 16 → (i j : ℕ) → has (get_or (musts n W xs) i 0) j ≡ must_of n W xs i j
  unfolding musts behind
  musts-each most i j = go (cases_lt i 17)
    where
      go : (i < 17) ⊎ (17 ≤ i) → has (get_or (musts n W xs) i 0) j ≡ must_of n W xs i j
      go (inl l) =
          let at = get_or-map-range_with_len (behind n W xs) 0 17 i i 0 l (omega arith) in
          rw (at, has-where (must_of n W xs i) 16 j) (grind (arith, nat_tests, no-door most i j))
      go (inr l) =
          let past = get_or_past (map (behind n W xs) (range_with_len 0 17)) i 0 (omega (arith, length-map-range_with_len (behind n W xs) 0 17)) in
          rw (past, has_none j) (grind (arith, nat_tests, no-door most i j))

  asked : (i j : ℕ) → IsDoor n i → IsDoor n j → i ≢ j → must_of n W xs i j ≡ must n W i j xs
  asked i j a b e = let al = a.low in let ah = a.high in let bl = b.low in let bh = b.high in grind (arith, nat_tests)

  -- and so exactly when j stands ahead of i on none of the paths
  pub musts-paths : n ≤ 16 → (i j : ℕ) → IsDoor n i → IsDoor n j → i ≢ j → MustMeans n W i j xs (has (get_or (musts n W xs) i 0) j)
  musts-paths most i j a b e = subst (MustMeans n W i j xs) (sym (musts-each most i j ∙ asked i j a b e)) (must-means n W i j xs)
