-- A fresh round is lawful: what holds of a blank door, and of the new one, holds of each.
use Rattle.std.proofs.Common.{◌≡◌, ℕ, zero, suc, get_or, set, replicate, sym, refl, subst}
use Rattle.round.specs.declared.door.Door.{Door}
use Rattle.round.specs.Tables.{blank, new_door, at, minutes_between}

-- a list of one thing, read with that same thing past its end
pub all_same : {A : Type 0} (k : ℕ) (a : A) (j : ℕ) → get_or (replicate k a) j a ≡ a
all_same zero a j = refl
all_same (suc k) a zero = refl
all_same (suc k) a (suc j) = all_same k a j

pub each-fresh : (P : Door → Type 0) → P blank → P new_door → (j : ℕ) → P (at (set (replicate 17 blank) 1 new_door) j)
each-fresh P b d zero = b
each-fresh P b d (suc zero) = d
each-fresh P b d (suc (suc j)) = subst P (sym (all_same 15 blank j)) b

-- in a table of zeros every drive is 0
pub no-leg : (k m i j : ℕ) → minutes_between (replicate k (replicate m 0)) i j ≡ 0
no-leg zero m i j = refl
no-leg (suc k) m zero j = all_same m 0 j
no-leg (suc k) m (suc i) j = no-leg k m i j
