-- Ways to a door: when they end, how they are shortened, and which of them a table of finishes knows.
use Rattle.std.proofs.Common.{◌≡◌, ℕ, ◌+◌, ◌<◌, ◌≤◌, List, [], ◌∷◌, ◌++◌, length, get_or, fold, sym, ap, ◌∙◌, subst, ⊎_elim, append_assoc, le_refl, arith}
use Rattle.std.proofs.lemmas.List.{length_push}
use Rattle.std.proofs.lemmas.List.Sums.{fold_push, fold-append}
use Rattle.doors.specs.Orders.{IsDoor, IsPartOrder}
use Rattle.doors.proofs.Orders.{part-next, next-part, each_none, each-front, each_last, each_more}
use Rattle.doors.proofs.Sets.{part_length}
use Rattle.round.specs.declared.table.Round.{Round}
use Rattle.round.specs.Clock.{door, drive, finish}
use Rattle.round.proofs.Clocks.{clock-laws}
use Rattle.orders.specs.declared.van.Van.{Van}
use Rattle.orders.specs.Times.{yard, next_van, van_after, finish_of, KeepsHours}
use Rattle.outlook.specs.Earliest.{ComesFrom, IsEarliest, NoneIsInTime, IsInTime, finish_from, IsLeastInto}
use Rattle.outlook.proofs.Splits.{in-or-not, split_at, all_there, ends_in}

-- ---- finishes

-- one door more
finish-next : (r : Round) (u : List ℕ) (i j : ℕ) → finish_of r ((u ++ i ∷ []) ++ j ∷ []) ≡ finish r (finish_of r (u ++ i ∷ [])) (drive r i j) j
finish-next r u i j =
    let last : (van_after r (u ++ i ∷ [])).last ≡ i = ap (λ (a : Van). a.last) (fold_push (next_van r) yard u i) in
    ap (λ (a : Van). a.finish) (fold_push (next_van r) yard (u ++ i ∷ []) j) ∙ ap (λ (k : ℕ). finish r (finish_of r (u ++ i ∷ [])) (drive r k j) j) last

finish-rises_from : (r : Round) (a : Van) (v : List ℕ) → a.finish ≤ (fold (next_van r) a v).finish
finish-rises_from r a [] = le_refl a.finish
finish-rises_from r a (j ∷ v) = omega (arith, (clock-laws r).after a.finish (drive r a.last j) j, finish-rises_from r (next_van r a j) v)

-- finishes never fall along a list
finish-rises : (r : Round) (u v : List ℕ) → finish_of r u ≤ finish_of r (u ++ v)
finish-rises r u v = rw (fold-append (next_van r) yard u v, finish_of) (finish-rises_from r (van_after r u) v)

-- ---- ways to a door

module _ (r : Round) where
  -- the doors ahead of j in a timely list are a way to it
  way : (u : List ℕ) (j : ℕ) (v : List ℕ) → IsPartOrder r.n (u ++ j ∷ v) → KeepsHours r (u ++ j ∷ v) → ComesFrom r u j
  way u j v p t = record { follows = part-next r.n u j v p; timely = each-front _ u (j ∷ v) t }

  -- a timely list leads to door j, by all its doors, or by those ahead of j
  shortened : (w : List ℕ) (j : ℕ) → IsPartOrder r.n w → KeepsHours r w → IsDoor r.n j → (u : List ℕ) × ComesFrom r u j × (finish_of r (u ++ j ∷ []) ≤ finish_of r (w ++ j ∷ []))
  shortened w j p t d = ⊎_elim
      (λ h.
      let s = split_at j w h in
      let e : w ++ j ∷ [] ≡ (s.u ++ j ∷ []) ++ (s.v ++ j ∷ []) = grind (arith, s.split, append_assoc {A = ℕ}) in
      (s.u, way s.u j s.v (rw (← s.split) p) (rw (← s.split) t), rw e (finish-rises r (s.u ++ j ∷ []) (s.v ++ j ∷ []))))
      (λ new. (w, record { follows = record { part = p; door = d; new = new }; timely = t }, le_refl _))
      (in-or-not j w)

-- ---- tables of finishes

-- for each door, some way ends by the minute of the table, and none with fewer than k doors ahead ends before it
pub record IsEarliestWithin (r : Round) (k : ℕ) (ends : List ℕ) : Type 0 where
  pub reached : (j : ℕ) → IsDoor r.n j → (u : List ℕ) × ComesFrom r u j × (finish_of r (u ++ j ∷ []) ≤ get_or ends j 0)
  pub least : (j : ℕ) → IsDoor r.n j → (u : List ℕ) → ComesFrom r u j → length u < k → get_or ends j 0 ≤ finish_of r (u ++ j ∷ [])

-- straight from the yard
pub within_first : (r : Round) (ends : List ℕ) → ((j : ℕ) → IsDoor r.n j → get_or ends j 0 ≡ finish r 0 (drive r 0 j) j) → IsEarliestWithin r 1 ends
within_first r ends h = record {
  reached = λ j d. ([], record { follows = record { part = tt; door = d; new = λ x. x }; timely = each_none _ }, omega (arith, h j d));
  least = λ j d u w few. first u j d few;
}
  where
    first : (u : List ℕ) (j : ℕ) → IsDoor r.n j → length u < 1 → get_or ends j 0 ≤ finish_of r (u ++ j ∷ [])
    first [] j d few = omega (arith, h j d)
    first (x ∷ u) j d few = absurd (omega arith)

module _ (r : Round) (k : ℕ) (ends : List ℕ) (some : 0 < k) (now : IsEarliestWithin r k ends) where
  later : (f f' i j : ℕ) → f ≤ f' → finish r f (drive r i j) j ≤ finish r f' (drive r i j) j
  later f f' i j h = (clock-laws r).later f f' (drive r i j) (drive r i j) j h (le_refl _)

  -- a way by door i
  reached_by : (i j m : ℕ) → IsInTime r ends i → IsDoor r.n j → m ≡ finish_from r ends i j → (u : List ℕ) × ComesFrom r u j × (finish_of r (u ++ j ∷ []) ≤ m)
  reached_by i j m t d e =
      let x = now.reached i t.is_door in
      let w = x.0 ++ i ∷ [] in
      let ends_by : finish_of r w ≤ get_or ends i 0 = x.2 in
      let in_time : finish_of r w ≤ (door r i).closes = omega (arith, t.in_time) in
      let y = shortened r w j (next-part r.n x.0 i x.1.follows.part t.is_door x.1.follows.new) (each_more _ x.0 i x.1.timely in_time) d in
      (y.0, y.1, omega (arith, y.2, finish-next r x.0 i j, later (finish_of r w) (get_or ends i 0) i j ends_by))

  -- the same, as a bound
  least_by : (v : List ℕ) (i j m : ℕ) → IsLeastInto r ends j m → ComesFrom r (v ++ i ∷ []) j → length v < k → m ≤ finish_of r ((v ++ i ∷ []) ++ j ∷ [])
  least_by v i j m l w few =
      let ahead = way r v i [] w.follows.part w.timely in
      let ends_by = now.least i ahead.follows.door v ahead few in
      let in_time : IsInTime r ends i = record { is_door = ahead.follows.door; in_time = omega (arith, ends_by, each_last _ v i w.timely) } in
      omega (arith, l.least i in_time, finish-next r v i j, later (get_or ends i 0) (finish_of r (v ++ i ∷ [])) i j ends_by)

  least_more : (u : List ℕ) (j m : ℕ) → IsDoor r.n j → IsLeastInto r ends j m → ComesFrom r u j → length u < k + 1 → m ≤ finish_of r (u ++ j ∷ [])
  least_more [] j m d l w few = omega (arith, l.not_above, now.least j d [] w some)
  least_more (x ∷ u) j m d l w few =
      let t = ends_in x u in
      subst (λ (u : List ℕ). ComesFrom r u j → length u < k + 1 → m ≤ finish_of r (u ++ j ∷ [])) (sym t.split)
      (λ w few. least_by t.v t.i j m l w (omega (arith, few, length_push t.v t.i))) w few

  -- one more door ahead
  pub within_more : (next : List ℕ) → ((j : ℕ) → IsDoor r.n j → IsLeastInto r ends j (get_or next j 0)) → IsEarliestWithin r (k + 1) next
  within_more next h = record {
    reached = λ j d. ⊎_elim (λ e. let x = now.reached j d in (x.0, x.1, omega (arith, x.2))) (λ x. reached_by x.0 j (get_or next j 0) x.1 d x.2) (h j d).reached;
    least = λ j d u w few. least_more u j (get_or next j 0) d (h j d) w few;
  }

-- no way has more doors ahead
pub within_all : (r : Round) (ends : List ℕ) → IsEarliestWithin r r.n ends → (j : ℕ) → IsDoor r.n j → IsEarliest r j (get_or ends j 0)
within_all r ends h j d = record { reached = (x.0, x.1, omega (arith, x.2, least x.0 x.1)); least = least }
  where
    x : (u : List ℕ) × ComesFrom r u j × (finish_of r (u ++ j ∷ []) ≤ get_or ends j 0)
    x = h.reached j d

    least : (u : List ℕ) → ComesFrom r u j → get_or ends j 0 ≤ finish_of r (u ++ j ∷ [])
    least u w = h.least j d u w (omega (arith, part_length r.n (j ∷ u) (d, w.follows.new, w.follows.part)))

-- ---- a door that is too late at its earliest

pub none-in-time : NoneIsInTime
none-in-time r j m d e late w a =
    let s = split_at j w (all_there r.n w j a.full.part a.full.whole d) in
    omega (arith, e.least s.u (way r s.u j s.v (rw (← s.split) a.full.part) (rw (← s.split) a.timely)), a.timely s.u j s.v s.split)
