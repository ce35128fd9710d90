-- Lists of doors, cut at a door.
use Rattle.std.proofs.Common.{◌≡◌, ℕ, ◌⊎◌, List, [], ◌∷◌, ◌++◌, length, sym, refl, ap, inl, inr, ⊎_elim, arith}
use Rattle.std.proofs.lemmas.Bool.{cases_Bool}
use Rattle.doors.specs.Orders.{StandsIn, IsDoor, IsPartOrder, is_in}
use Rattle.doors.proofs.Orders.{is-in, in_is}
use Rattle.doors.proofs.Sets.{part_length}

pub in-or-not : (j : ℕ) (w : List ℕ) → StandsIn j w ⊎ (¬ StandsIn j w)
in-or-not j w = ⊎_elim (λ e. inl (is-in j w e)) (λ e. inr (λ h. cc (in_is j w h))) (cases_Bool (is_in j w))

-- w is the doors u, then j, then the doors v
pub record SplitAt (j : ℕ) (w : List ℕ) : Type 0 where
  pub u : List ℕ
  pub v : List ℕ
  pub split : w ≡ u ++ j ∷ v

pub split_at : (j : ℕ) (w : List ℕ) → StandsIn j w → SplitAt j w
split_at j [] h = absurd h
split_at j (x ∷ w) (inl e) = record { u = []; v = w; split = ap (λ (i : ℕ). i ∷ w) (sym e) }
split_at j (x ∷ w) (inr h) = let s = split_at j w h in record { u = x ∷ s.u; v = s.v; split = ap (λ (l : List ℕ). x ∷ l) s.split }

-- a part order of all doors has each door
pub all_there : (n : ℕ) (w : List ℕ) (j : ℕ) → IsPartOrder n w → length w ≡ n → IsDoor n j → StandsIn j w
all_there n w j p e d = ⊎_elim (λ h. h) (λ new. absurd (omega (arith, part_length n (j ∷ w) (d, new, p)))) (in-or-not j w)

-- x ∷ u is the doors v, and then the door i
pub record EndsIn (x : ℕ) (u : List ℕ) : Type 0 where
  pub v : List ℕ
  pub i : ℕ
  pub split : x ∷ u ≡ v ++ i ∷ []

pub ends_in : (x : ℕ) (u : List ℕ) → EndsIn x u
ends_in x [] = record { v = []; i = x; split = refl }
ends_in x (y ∷ u) = let t = ends_in y u in record { v = x ∷ t.v; i = t.i; split = ap (λ (l : List ℕ). x ∷ l) t.split }
