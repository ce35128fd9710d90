-- A text that is read.
use Rattle.std.proofs.Common.{◌≡◌, ℕ, Bool, true, false, List, length, Ok, Err, Result, MatchBool, MatchResult, nat_lt, refl}
use Rattle.std.proofs.lemmas.Bool.{ltb-true, ltb-false}
use Rattle.round.specs.declared.table.Round.{Round}
use Rattle.text.specs.declared.refusal.Refusal.{Refusal}
use Rattle.text.specs.declared.refusal.Refusal.TheVariants.{TooLong}
use Rattle.text.specs.Reading.{read_text}
use Rattle.text.specs.Rounds.{contents, Bounded}
use Rattle.packed.specs.Sheets.{OnRead}

-- a text that is accepted is that of the round that was written
pub read-here : {A : Type 0} (u : A) (was is : Round) (text : List ℕ) (P : Result Round Refusal → Type 0)
    → Bounded {A = A} (Ok u) was is text → P (Ok is) → OnRead text P
read-here u was is text P h p = go (nat_lt 16384 (length text)) refl
  where
    go : (b : Bool) → nat_lt 16384 (length text) ≡ b
        → MatchBool b (P (Err TooLong)) (MatchResult (read_text text) (λ d. (r : Round) × (contents r ≡ d) × P (Ok r)) (λ e. P (Err e)))
    go true e = let no = (h.0 (ltb-true _ _ e)).0 in cc
    go false e = rw ((h.1 (ltb-false _ _ e)).0) (is, refl, p)

-- what follows from it holds as well
pub on-read-map : (text : List ℕ) (P Q : Result Round Refusal → Type 0) → ((t : Result Round Refusal) → P t → Q t) → OnRead text P → OnRead text Q
on-read-map text P Q f h = go (λ r d. contents r ≡ d) (nat_lt 16384 (length text)) (read_text text) h
  where
    go : {D : Type 0} (C : Round → D → Type 0) (b : Bool) (x : Result D Refusal)
        → MatchBool b (P (Err TooLong)) (MatchResult x (λ d. (r : Round) × C r d × P (Ok r)) (λ e. P (Err e)))
        → MatchBool b (Q (Err TooLong)) (MatchResult x (λ d. (r : Round) × C r d × Q (Ok r)) (λ e. Q (Err e)))
    go C true x h = f (Err TooLong) h
    go C false (Ok d) h = (h.0, h.1, f (Ok h.0) h.2)
    go C false (Err e) h = f (Err e) h
