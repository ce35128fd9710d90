-- From the claim on the refined diagram to what the sheet claims.
use Rattle.std.proofs.Common.{◌≡◌, ◌≢◌, ℕ, true, false, List, [], ◌∷◌, Option, Some, None, slice_index, ◌==◌, refl, sym, ap, ◌∙◌, arith}
use Rattle.std.proofs.lemmas.Bool.{ne_eqb}
use Rattle.std.proofs.lemmas.Bool.Decides.{nat_tests}
use Rattle.std.specs.Int.{bit_at}
use Rattle.doors.specs.Orders.{IsDoor}
use Rattle.doors.specs.Sets.{has}
use Rattle.round.specs.declared.table.Round.{Round}
use Rattle.tallies.specs.Late.{is_not_above}
use Rattle.orders.specs.Allowed.{IsAllowed}
use Rattle.layers.specs.declared.call.Call.TheVariants.{Refine}
use Rattle.layers.specs.Calls.{bound, must, is_settled}
use Rattle.layers.specs.Claim.{ClaimHolds, Wanted}
use Rattle.allowed.specs.Orders.{IsAllowedOrder, KeepsRules, IsNotAbove, late_cost}
use Rattle.diagram.specs.Musts.{must_of}
use Rattle.round_sheet.specs.Claims.{NoneUndercuts, MustsNameDoors, MustsHold, BoundIsReached, NoMustMissing}
use Rattle.round_sheet.specs.Sheets.{Records, setting_for}

-- the order on costs, as a test and in words
pub lex-not_above : (a b : ℕ × ℕ) → is_not_above a b ≡ true → IsNotAbove a b
lex-not_above a b e = grind arith

-- what is claimed of the records xs once the diagram is refined
abbrev pub Claimed : Round → Records → Type 0
Claimed r xs = ClaimHolds (setting_for r) (KeepsRules r) (Refine ∷ []) xs

allowed-order : (r : Round) (w : List ℕ) → IsAllowed r (KeepsRules r) w → IsAllowedOrder r w
allowed-order r w a = record { full = record { part = a.part; whole = a.whole }; ordered = a.keeps.0.0; within = a.keeps.0.1; spaced = a.keeps.1; timely = a.timely }

order-wanted : (r : Round) (w : List ℕ) → IsAllowedOrder r w → Wanted (setting_for r) (KeepsRules r) (Refine ∷ []) w
order-wanted r w a = (record { part = a.full.part; whole = a.full.whole; keeps = ((a.ordered, a.within), a.spaced); timely = a.timely }, tt)

-- the answer of two different doors
asked : (n : ℕ) (xs : Records) (i j : ℕ) → IsDoor n i → IsDoor n j → i ≢ j → must_of n 16 xs i j ≡ must n 16 i j xs
asked n xs i j a b d = let al = a.low in let ah = a.high in let bl = b.low in let bh = b.high in grind (arith, nat_tests)

-- an answer yes is of two different doors
yes-must : (n : ℕ) (xs : Records) (i j : ℕ) → must_of n 16 xs i j ≡ true → IsDoor n i × IsDoor n j × (i ≢ j) × (must n 16 i j xs ≡ true)
yes-must n xs i j e =
    (record { low = grind (arith, nat_tests); high = grind (arith, nat_tests) }, record { low = grind (arith, nat_tests); high = grind (arith, nat_tests) }, grind (arith, nat_tests), grind (arith, nat_tests))

-- each must names two different doors, where the sets are those of the diagram's musts
pub musts_named : (r : Round) (xs : Records) (sets : List ℕ) → ((i j : ℕ) → has (slice_index sets i) j ≡ must_of r.n 16 xs i j) → MustsNameDoors r sets
musts_named r xs sets each i j h =
    let p = yes-must r.n xs i j (sym (each i j) ∙ ap (λ k. k == 1) h) in
    (p.0, p.1, p.2)

module _ (r : Round) (xs : Records) (sure : Claimed r xs) where
  undercuts_of : (o : Option (ℕ × ℕ)) → bound r.n 16 xs ≡ o → NoneUndercuts r o
  undercuts_of None e = λ w a. sure.nothing_lost.low_none e w (order-wanted r w a)
  undercuts_of (Some v) e = λ w a. lex-not_above v (late_cost r w) (sure.nothing_lost.low w v (order-wanted r w a) e)

  pub none_undercuts : NoneUndercuts r (bound r.n 16 xs)
  none_undercuts = undercuts_of (bound r.n 16 xs) refl

  reached_of : is_settled (setting_for r) xs ≡ true → (o : Option (ℕ × ℕ)) → bound r.n 16 xs ≡ o → BoundIsReached r o
  reached_of s None e = λ w a. sure.nothing_lost.low_none e w (order-wanted r w a)
  reached_of s (Some v) e =
      let p = (sure.nothing_false s).least v e in
      (p.0, allowed-order r p.0 ((sure.nothing_false s).allowed p.0 p.1), p.2)

  pub bound_reached : is_settled (setting_for r) xs ≡ true → BoundIsReached r (bound r.n 16 xs)
  bound_reached s = reached_of s (bound r.n 16 xs) refl

  -- the sets are those of the diagram's musts
  module _ (sets : List ℕ) (each : (i j : ℕ) → has (slice_index sets i) j ≡ must_of r.n 16 xs i j) where
    pub musts_hold : MustsHold r sets
    musts_hold i j h w a =
        let p = yes-must r.n xs i j (sym (each i j) ∙ ap (λ k. k == 1) h) in
        sure.nothing_lost.must_yes i j p.0 p.1 p.2 p.3 w (order-wanted r w a)

    pub none_missing : is_settled (setting_for r) xs ≡ true → NoMustMissing r sets
    none_missing s i j a b d none =
        let no : must r.n 16 i j xs ≡ false = sym (asked r.n xs i j a b d) ∙ sym (each i j) ∙ ne_eqb (bit_at (slice_index sets i) j) 1 none in
        let p = (sure.nothing_false s).must_no i j no in
        (p.0, allowed-order r p.0 ((sure.nothing_false s).allowed p.0 p.1), p.2)
