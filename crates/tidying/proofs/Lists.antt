-- Lists read with the element that stands past their end
use Rattle.std.proofs.Common.{◌≡◌, ℕ, zero, suc, List, [], ◌∷◌, ◌++◌, ◌⊎◌, map, get_or, replicate, refl, sym, inl, inr}

pub get_or-blank : {X : Type 0} (n i : ℕ) (z : X) → get_or (replicate n z) i z ≡ z
get_or-blank zero i z = refl
get_or-blank (suc n) zero z = refl
get_or-blank (suc n) (suc i) z = get_or-blank n i z

-- what reads as z may as well not be there
pub get_or-tail : {X : Type 0} (xs ys : List X) (z : X) → ((i : ℕ) → get_or ys i z ≡ z) → (i : ℕ) → get_or (xs ++ ys) i z ≡ get_or xs i z
get_or-tail [] ys z h i = h i
get_or-tail (x ∷ xs) ys z h zero = refl
get_or-tail (x ∷ xs) ys z h (suc i) = get_or-tail xs ys z h i

pub get_or-mapped : {X Y : Type 0} (f : X → Y) (xs : List X) (i : ℕ) (d : X) (e : Y) → f d ≡ e → get_or (map f xs) i e ≡ f (get_or xs i d)
get_or-mapped f [] i d e h = sym h
get_or-mapped f (x ∷ xs) zero d e h = refl
get_or-mapped f (x ∷ xs) (suc i) d e h = get_or-mapped f xs i d e h

pub zero-or-suc : (n : ℕ) → (n ≡ 0) ⊎ ((m : ℕ) × (n ≡ suc m))
zero-or-suc zero = inl refl
zero-or-suc (suc m) = inr (m, refl)
