-- What words name: one list of doors at most, and which doors it has.
use Rattle.std.proofs.Common.{◌≡◌, ℕ, zero, suc, ◌^◌, ◌<◌, ◌≤◌, true, false, List, [], ◌∷◌, ◌++◌, length, slice_index_or, nat_eq, length-append, refl, sym, ap₂, ◌∙◌, arith}
use Rattle.std.specs.Borrow.{Bor}
use Rattle.std.specs.List.{list_any}
use Rattle.std.proofs.lemmas.Bool.Decides.{nat_tests}
use Rattle.std.proofs.lemmas.Fmt.{decimal_injective}
use Rattle.doors.specs.Orders.{StandsIn, IsDoor, IsPartOrder, is_door}
use lib.Count.{ones}
use Rattle.doors.specs.Sets.{Has, set_of}
use Rattle.doors.proofs.Orders.{door-is, part-next, next-part, in-last}
use Rattle.doors.proofs.Sets.{has_left, has-added, ones-set, length-within, part_length}
use Rattle.round.specs.declared.table.Round.{Round}
use Rattle.order_report.specs.Named.{IsDoorText, IsNoDoorText, NameDoors, NameOrder}
use Rattle.order_report.specs.Faults.{IsFirstFault}
use Rattle.order_report.specs.declared.named.OrderFault as faults
use Rattle.order_report.specs.declared.named.OrderFault.TheVariants.{NoDoor, Twice, Missing}

-- ---- words

-- a text names one door at most
pub one_door : (m n : ℕ) (text : List ℕ) (i j : ℕ) → m ≤ 16 → n ≤ 16 → IsDoorText m text i → IsDoorText n text j → i ≡ j
one_door m n text i j p q a b = decimal_injective i j (omega (arith, a.door.high)) (omega (arith, b.door.high)) (sym a.digits ∙ b.digits)

-- nor does it name any, where the one that it names is above n
pub no_text : (n : ℕ) (text : List ℕ) (i : ℕ) → n ≤ 16 → IsDoorText 16 text i → is_door n i ≡ false → IsNoDoorText n text
no_text n text i small a e = λ j b. let same = one_door 16 n text i j (omega arith) small a b in cc (same, door-is n j b.door)

pub one_list : (n : ℕ) (words : List (Bor (List ℕ))) (v w : List ℕ) → n ≤ 16 → NameDoors n words v → NameDoors n words w → v ≡ w
one_list n [] [] [] small a b = refl
one_list n [] [] (j ∷ w) small a b = elim b [ ]
one_list n [] (i ∷ v) w small a b = elim a [ ]
one_list n (x ∷ words) [] w small a b = elim a [ ]
one_list n (x ∷ words) (i ∷ v) [] small a b = elim b [ ]
one_list n (x ∷ words) (i ∷ v) (j ∷ w) small a b = ap₂ (λ (k : ℕ) (u : List ℕ). k ∷ u) (one_door n n x.now i j small small a.0 b.0) (one_list n words v w small a.1 b.1)

pub named_doors : (n : ℕ) (words : List (Bor (List ℕ))) (w : List ℕ) → NameDoors n words w → (k d : ℕ) → k < length w → IsDoor n (slice_index_or w k d)
named_doors n [] [] h k d p = absurd (omega arith)
named_doors n [] (j ∷ w) h k d p = elim h [ ]
named_doors n (x ∷ words) [] h k d p = elim h [ ]
named_doors n (x ∷ words) (j ∷ w) h zero d p = h.0.door
named_doors n (x ∷ words) (j ∷ w) h (suc k) d p = named_doors n words w h.1 k d (omega arith)

-- ---- doors that a list has

pub any-stands : (j : ℕ) (w : List ℕ) → list_any (λ y. nat_eq y j) w ≡ true → StandsIn j w
any-stands j [] e = grind arith
any-stands j (x ∷ w) e = grind (arith, nat_tests, any-stands j w)

pub stands-any : (j : ℕ) (w : List ℕ) → StandsIn j w → list_any (λ y. nat_eq y j) w ≡ true
stands-any j [] h = grind arith
stands-any j (x ∷ w) h = grind (arith, nat_tests, stands-any j w)

stands-set : (j : ℕ) (w : List ℕ) → StandsIn j w → Has (set_of w) j
stands-set j [] h = elim h [ ]
stands-set j (x ∷ w) h = grind (arith, has_left (set_of w) (2 ^ x) j, has-added (set_of w) x, stands-set j w)

-- the doors 1 to m
abbrev up_to : ℕ → List ℕ
up_to zero = []
up_to (suc m) = up_to m ++ suc m ∷ []

up_to-in : (m j : ℕ) → StandsIn j (up_to m) → (1 ≤ j) × (j ≤ m)
up_to-in zero j h = elim h [ ]
up_to-in (suc m) j h = grind (arith, in-last (up_to m) j (suc m), up_to-in m j)

up_to-part : (n m : ℕ) → m ≤ n → IsPartOrder n (up_to m)
up_to-part n zero h = tt
up_to-part n (suc m) h =
    next-part n (up_to m) (suc m) (up_to-part n m (omega arith)) (record { low = omega arith; high = h }) (λ x. let y = up_to-in m (suc m) x in absurd (omega arith))

length-up_to : (m : ℕ) → length (up_to m) ≡ m
length-up_to zero = refl
length-up_to (suc m) = grind (arith, length-append (up_to m) (suc m ∷ []), length-up_to m)

-- a part order that lacks no door has all
pub whole : (n : ℕ) (w : List ℕ) → IsPartOrder n w → ((k : ℕ) → 1 ≤ k → k ≤ n → StandsIn k w) → length w ≡ n
whole n w p all =
    let most : length w ≤ n = part_length n w p in
    let least : length (up_to n) ≤ ones (set_of w) = length-within n (set_of w) (up_to n) (up_to-part n n (omega arith)) (λ j h. let x = up_to-in n j h in stands-set j w (all j x.0 x.1)) in
    omega (arith, length-up_to n, ones-set n w p)

-- a list lacks no door if it is a part order of all
pub lacks-none : (n : ℕ) (w : List ℕ) (j : ℕ) → IsPartOrder n w → length w ≡ n → IsDoor n j → ¬ StandsIn j w → ⊥
lacks-none n w j p e d f = omega (arith, part_length n (j ∷ w) (d, f, p))

-- ---- a fault, and an order of all doors

stray-named : (n : ℕ) (ahead rest : List (Bor (List ℕ))) (word : Bor (List ℕ)) (w : List ℕ) → IsNoDoorText n word.now → ¬ NameDoors n (ahead ++ word ∷ rest) w
stray-named n [] rest word [] none h = elim h [ ]
stray-named n (x ∷ ahead) rest word [] none h = elim h [ ]
stray-named n [] rest word (j ∷ w) none h = none j h.0
stray-named n (x ∷ ahead) rest word (j ∷ w) none h = stray-named n ahead rest word w none h.1

module _ (r : Round) (words : List (Bor (List ℕ))) (v : List ℕ) (o : NameOrder r words v) where
  same : (w : List ℕ) → NameDoors r.n words w → v ≡ w
  same w h = one_list r.n words v w r.most o.doors h

  -- words that name an order of all doors have no fault
  pub no_fault : (f : faults.OrderFault) → ¬ IsFirstFault r.n words f
  no_fault (NoDoor word most) h = stray-named r.n h.0.ahead h.0.rest word v h.0.stray (rw h.0.split at o.doors)
  no_fault (Twice j) (w, named, x) = (part-next r.n x.ahead j x.rest (rw (same w named, x.split) at o.full.part)).new x.again
  no_fault (Missing j) (w, named, x) = lacks-none r.n w j x.part (rw (same w named) at o.full.whole) x.door x.lacks
