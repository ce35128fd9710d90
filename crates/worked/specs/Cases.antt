-- The worked cases, in one statement on the definitions: the rule is pairs, load and keepers together, the tally late doors.
use Rattle.std.specs.Prelude.{◌≡◌, ℕ, zero, suc, ◌*◌, Bool, true, false, ◌⊎◌, List, [], ◌∷◌, length, map, replicate, take, drop, Some, None, Ok, Err, Result, slice_index_or, ℤ, pos, negsuc}
use Rattle.std.proofs.Common.{arith}
use Rattle.doors.specs.Orders.{IsPartOrder}
use Rattle.round.specs.declared.table.Round.{Round}
use Rattle.rules.specs.Keepers.{IsSpaced}
use Rattle.rules.specs.Loads.{IsWithinCap}
use Rattle.rules.specs.Sides.{SideState}
use Rattle.tallies.specs.Driving.{driving_sense}
use Rattle.orders.specs.Allowed.{IsAllowed}
use Rattle.orders.specs.Times.{finish_minutes, finish_of}
use Rattle.orders.specs.Costs.{cost}
use Rattle.orders.specs.Verdicts.{verdict}
use Rattle.orders.specs.declared.verdict.Verdict.TheVariants as is
use Rattle.layers.specs.declared.node.Node.{Node}
use Rattle.layers.specs.declared.refined.Refined.{Refined}
use Rattle.layers.specs.declared.refined.Refined.TheVariants.{Whole, Full}
use Rattle.layers.specs.declared.refusal.Refusal.{Refusal}
use Rattle.layers.specs.declared.refusal.Refusal.TheVariants.{NoLayer, NoDoor, WrongLength}
use Rattle.layers.specs.Settings.{Setting, setting}
use Rattle.layers.specs.Calls.{after_open, arcs, after_sweep, sweep_answer, after_cut, cut_answer, after_backsweep, backsweep_answer, part_answer, after_part, refinement, bound, must, is_settled, holds, holds_answer, layer_answer}
use Rattle.allowed.specs.Orders.{KeepsRules}
use Rattle.allowed.specs.Senses.{side_of, late_of}
use Rattle.worked.specs.Rounds.{trio, loose, boxes, shared}

-- w keeps the load: it is 0 to the cap after every door
abbrev pub Loaded : Round → List ℕ → Type 0
Loaded r w = IsWithinCap r.load r.cap r.doors w

-- what the calls go by, at width W
abbrev pub by : Round → ℕ → Setting SideState (ℕ × ℕ)
by r W = setting r (side_of r) (late_of r) W

abbrev pub Place : Type 0
Place = Node SideState (ℕ × ℕ)

-- at width W, on a lent list: opened, and after k sweeps
abbrev pub sweeps : Round → ℕ → ℕ → List Place → List Place
sweeps r W zero lent = after_open (by r W) lent
sweeps r W (suc k) lent = after_sweep (by r W) (sweeps r W k lent)

abbrev pub answer : Round → ℕ → ℕ → List Place → ℕ
answer r W k lent = sweep_answer (by r W) (sweeps r W k lent)

-- after refining: the answer, and the records
abbrev pub fine : Round → ℕ → List Place → Refined × List Place
fine r W lent = refinement (by r W) (after_open (by r W) lent)

abbrev pub asked : Round → ℕ → ℕ → ℕ → List Place → Bool
asked r W i j lent = must 3 W i j (fine r W lent).1

-- the six orders of three doors
abbrev pub six : List (List ℕ)
six = (1 ∷ 2 ∷ 3 ∷ []) ∷ (2 ∷ 1 ∷ 3 ∷ []) ∷ (1 ∷ 3 ∷ 2 ∷ []) ∷ (2 ∷ 3 ∷ 1 ∷ []) ∷ (3 ∷ 1 ∷ 2 ∷ []) ∷ (3 ∷ 2 ∷ 1 ∷ []) ∷ []

-- what holds answers of each of these lists of doors, at width W
abbrev pub told : ℕ → List (List ℕ) → List Place → List (Result Bool Refusal)
told W ws xs = map (λ w. holds_answer 3 W w xs) ws

-- of the records of a layer, how many
abbrev pub counted : Result (List Place) Refusal → Result ℕ Refusal
counted (Ok xs) = Ok (length xs)
counted (Err r) = Err r

-- so of layers 0 to 4, at width W
abbrev pub counts : ℕ → List Place → List (Result ℕ Refusal)
counts W xs = map (λ i. counted (layer_answer 3 W i xs)) (0 ∷ 1 ∷ 2 ∷ 3 ∷ 4 ∷ [])

-- refine is whole, the bound (1, 1), must yes at (1, 2), (1, 3) and (3, 2) alone, and 1, 3, 2 the one path
pub record Sheet (r : Round) (lent : List Place) : Type 0 where
  pub whole : (fine r 16 lent).0 ≡ Whole
  pub low : bound 3 16 (fine r 16 lent).1 ≡ Some (1, 1)
  pub yes : asked r 16 1 2 lent ∷ asked r 16 1 3 lent ∷ asked r 16 3 2 lent ∷ [] ≡ true ∷ true ∷ true ∷ []
  pub no' : asked r 16 2 1 lent ∷ asked r 16 3 1 lent ∷ asked r 16 2 3 lent ∷ [] ≡ false ∷ false ∷ false ∷ []
  pub path : arcs 3 16 (fine r 16 lent).1 ≡ ((1 ∷ 0 ∷ 0 ∷ []) ∷ []) ∷ ((0 ∷ 0 ∷ 1 ∷ []) ∷ []) ∷ ((0 ∷ 1 ∷ 0 ∷ []) ∷ []) ∷ []

-- the round of the sheet, door 2 closing at 9 or at 8
pub record AsPrinted (r : Round) (lent : List Place) : Type 0 where
  -- by 1, 3, 2 the doors are finished at 2, 6 and 8, in time; by 1, 2, 3 the last is finished at 9, too late
  pub minutes : finish_minutes r (1 ∷ 3 ∷ 2 ∷ []) ≡ 2 ∷ 6 ∷ 8 ∷ []
  pub is_allowed : IsAllowed r (KeepsRules r) (1 ∷ 3 ∷ 2 ∷ [])
  pub ends_late : finish_of r (1 ∷ 2 ∷ 3 ∷ []) ≡ 9
  pub not_allowed : IsAllowed r (KeepsRules r) (1 ∷ 2 ∷ 3 ∷ []) → ⊥
  -- the verdicts say so: 1, 3, 2 is allowed, and 1, 2, 3 finishes door 3 after it closes
  pub says_allowed : verdict r (side_of r) (1 ∷ 3 ∷ 2 ∷ []) ≡ is.Allowed
  pub says_closes : verdict r (side_of r) (1 ∷ 2 ∷ 3 ∷ []) ≡ is.Closes 3
  -- what 1, 3, 2 costs by either tally: no minute driven, one late door by one minute
  pub drives : cost r driving_sense (1 ∷ 3 ∷ 2 ∷ []) ≡ 0
  pub lateness : cost r (late_of r) (1 ∷ 3 ∷ 2 ∷ []) ≡ (1, 1)
  -- just opened, the bound is no late door; what each of four sweeps takes out
  pub at_opening : bound 3 16 (sweeps r 16 0 lent) ≡ Some (0, 0)
  pub four_sweeps : answer r 16 0 lent ∷ answer r 16 1 lent ∷ answer r 16 2 lent ∷ answer r 16 3 lent ∷ [] ≡ 2 ∷ 3 ∷ 1 ∷ 0 ∷ []
  -- what refine leaves
  pub sheet : Sheet r lent
  -- a cut behind them at the order's own cost takes out nothing, one a minute below it the whole path
  pub cut_none : cut_answer (by r 16) (1, 1) (sweeps r 16 4 lent) ≡ 0
  pub cut_three : cut_answer (by r 16) (1, 0) (after_cut (by r 16) (1, 1) (sweeps r 16 4 lent)) ≡ 3

-- door 2 closes at 7: no order is allowed
pub record ClosedEarly (r : Round) (lent : List Place) : Type 0 where
  pub whole : (fine r 16 lent).0 ≡ Whole
  pub none : bound 3 16 (fine r 16 lent).1 ≡ None
  -- it holds no order, and has the first node alone
  pub none_of_six : map (λ w. holds 3 16 w (fine r 16 lent).1) six ≡ replicate 6 false
  pub first_node : counts 16 (fine r 16 lent).1 ≡ Ok 1 ∷ Ok 0 ∷ Ok 0 ∷ Ok 0 ∷ Err NoLayer ∷ []

-- three doors with all the time there is and a minute of work each, of which 2 has to come ahead of 1
pub record Paired (r : Round) (lent : List Place) : Type 0 where
  -- at width 2 a sweep takes out one arc; node 1 of layer 1 is parted, and the arc by door 3 goes to the new node; then a sweep takes out three
  pub sweep_one : answer r 2 0 lent ≡ 1
  pub parts : part_answer (by r 2) 1 1 (sweeps r 2 1 lent) ≡ Ok tt
  pub before_part : slice_index_or (arcs 3 2 (sweeps r 2 1 lent)) 0 [] ≡ (0 ∷ 1 ∷ 1 ∷ []) ∷ []
  pub part_moves : slice_index_or (arcs 3 2 (after_part (by r 2) 1 1 (sweeps r 2 1 lent))) 0 [] ≡ (0 ∷ 1 ∷ 2 ∷ []) ∷ []
  pub sweep_three : sweep_answer (by r 2) (after_part (by r 2) 1 1 (sweeps r 2 1 lent)) ≡ 3
  -- refined from opening on: width 2 does not suffice, width 3 does, and then 2 ahead of 1 is a must, and 3 ahead of 1 is none
  pub full_at_2 : (fine r 2 lent).0 ≡ Full 2
  pub not_settled : is_settled (by r 2) (fine r 2 lent).1 ≡ false
  pub whole_at_3 : (fine r 3 lent).0 ≡ Whole
  pub must_two : asked r 3 2 1 lent ≡ true
  pub must_three : asked r 3 3 1 lent ≡ false

-- at width W, the last minutes to leave that stand at the first places of layers 0 to 3
abbrev pub minutes : ℕ → List Place → List ℤ
minutes W xs = let all = map (λ x. x.label.up.late) xs in map (λ i. slice_index_or all (i * W) (pos 0)) (0 ∷ 1 ∷ 2 ∷ 3 ∷ [])

-- the diagram of r, opened at width 16 and then backswept
abbrev pub backswept : Round → List Place → List Place
backswept r lent = after_backsweep (by r 16) (sweeps r 16 0 lent)

-- the last minutes to leave, and what a backsweep takes out, with door 2 closing at 9, 8 or 7
pub record LastMinutes (at9 at8 at7 : Round) (lent : List Place) : Type 0 where
  -- at 9, opened: the first node has to be left by 3, the next by 5 and 7; doors 2 and 3 as first door would end at 6, and go;
  -- then the first node has to be left by 1, and nothing more goes
  pub opened_at_9 : minutes 16 (sweeps at9 16 0 lent) ≡ pos 3 ∷ pos 5 ∷ pos 7 ∷ pos 9999 ∷ []
  pub goes_at_9 : backsweep_answer (by at9 16) (sweeps at9 16 0 lent) ≡ 2
  pub left_at_9 : slice_index_or (arcs 3 16 (backswept at9 lent)) 0 [] ≡ (1 ∷ 0 ∷ 0 ∷ []) ∷ []
  pub again_at_9 : minutes 16 (backswept at9 lent) ≡ pos 1 ∷ pos 5 ∷ pos 7 ∷ pos 9999 ∷ []
  pub none_at_9 : backsweep_answer (by at9 16) (backswept at9 lent) ≡ 0
  -- at 8 each has to be left a minute sooner; door 2 as second door ends at 6, the last minute to leave its target, and stays
  pub opened_at_8 : minutes 16 (sweeps at8 16 0 lent) ≡ pos 2 ∷ pos 4 ∷ pos 6 ∷ pos 9999 ∷ []
  pub left_at_8 : slice_index_or (arcs 3 16 (backswept at8 lent)) 1 [] ≡ (1 ∷ 1 ∷ 1 ∷ []) ∷ []
  -- at 7 refine leaves no path, and so no minute
  pub none_at_7 : minutes 16 (fine at7 16 lent).1 ≡ replicate 4 (negsuc 39999)

-- which lists of doors the diagram of r holds, opened and refined at width 16
pub record HeldLists (r : Round) (lent : List Place) : Type 0 where
  -- opened, it holds even 1, 1, 1
  pub any_list : told 16 ((1 ∷ 1 ∷ 1 ∷ []) ∷ []) (sweeps r 16 0 lent) ≡ Ok true ∷ []
  -- refined, of the six orders 1, 3, 2 alone, and no list in which a door comes twice
  pub one_of_six : map (λ w. holds 3 16 w (fine r 16 lent).1) six ≡ false ∷ false ∷ true ∷ false ∷ false ∷ false ∷ []
  pub no_repeat : told 16 ((1 ∷ 1 ∷ 2 ∷ []) ∷ []) (fine r 16 lent).1 ≡ Ok false ∷ []
  -- a list of two or four is refused for its length, whatever numbers it has, and one of three for a number that is no door
  pub length_first : told 16 ((1 ∷ 4 ∷ []) ∷ (1 ∷ 4 ∷ 0 ∷ 0 ∷ []) ∷ []) (fine r 16 lent).1 ≡ Err WrongLength ∷ Err WrongLength ∷ []
  pub then_doors : told 16 ((1 ∷ 4 ∷ 2 ∷ []) ∷ (0 ∷ 3 ∷ 2 ∷ []) ∷ []) (fine r 16 lent).1 ≡ Err NoDoor ∷ Err NoDoor ∷ []

-- which orders the diagram of r holds, and what its layers are, refined at width 3, where 2 has to come ahead of 1
pub record HandedLayers (r : Round) (lent : List Place) : Type 0 where
  -- of the six orders it holds those in which 2 comes ahead of 1
  pub three_of_six : map (λ w. holds 3 3 w (fine r 3 lent).1) six ≡ false ∷ true ∷ false ∷ true ∷ false ∷ true ∷ []
  -- layers 0 to 3 have 1, 2, 3 and 1 nodes, and there is no layer 4; the nodes of layer 1 stand at places 3 and 4
  pub how_many : counts 3 (fine r 3 lent).1 ≡ Ok 1 ∷ Ok 2 ∷ Ok 3 ∷ Ok 1 ∷ Err NoLayer ∷ []
  pub which : layer_answer 3 3 1 (fine r 3 lent).1 ≡ Ok (take 2 (drop 3 (fine r 3 lent).1))

-- three doors with all the time there is and a minute of work each, of which 1 and 2 have one keeper
pub record Spaced (r : Round) (lent : List Place) : Type 0 where
  -- 1, 2, 3 breaks the rule, and 1, 3, 2 keeps it
  pub broken : ¬ IsSpaced r.keepers (1 ∷ 2 ∷ 3 ∷ [])
  pub kept : IsSpaced r.keepers (1 ∷ 3 ∷ 2 ∷ [])
  -- the verdicts of the six orders: allowed are those in which 3 stands between, and else the later of 1 and 2 is the fault
  pub says : map (verdict r (side_of r)) six
      ≡ is.Breaks 2 ∷ is.Breaks 1 ∷ is.Allowed ∷ is.Allowed ∷ is.Breaks 2 ∷ is.Breaks 1 ∷ []
  -- four lists of two doors keep the rule, so that at width 3 refine is full at layer 2; at width 4 it is whole, and the diagram
  -- holds these two orders alone
  pub full_at_3 : (fine r 3 lent).0 ≡ Full 2
  pub whole_at_4 : (fine r 4 lent).0 ≡ Whole
  pub two_of_six : map (λ w. holds 3 4 w (fine r 4 lent).1) six ≡ false ∷ false ∷ true ∷ true ∷ false ∷ false ∷ []

-- which orders of the three doors keep the load
pub record TwoKeep (r : Round) : Type 0 where
  -- these two keep it
  pub these : Loaded r (1 ∷ 2 ∷ 3 ∷ []) × Loaded r (2 ∷ 1 ∷ 3 ∷ [])
  -- and whatever order of the doors 1 to 3 keeps it is one of these two
  pub only : (w : List ℕ) → IsPartOrder 3 w → length w ≡ 3 → Loaded r w → (w ≡ 1 ∷ 2 ∷ 3 ∷ []) ⊎ (w ≡ 2 ∷ 1 ∷ 3 ∷ [])

pub record WorkedOut (lent : List Place) : Type 0 where
  pub printed_at_9 : AsPrinted (trio 9 (omega arith)) lent
  -- a minute sooner makes no difference
  pub printed_at_8 : AsPrinted (trio 8 (omega arith)) lent
  pub closed_at_7 : ClosedEarly (trio 7 (omega arith)) lent
  pub paired : Paired loose lent
  pub last_minutes : LastMinutes (trio 9 (omega arith)) (trio 8 (omega arith)) (trio 7 (omega arith)) lent
  pub held_lists : HeldLists (trio 9 (omega arith)) lent
  pub handed_layers : HandedLayers loose lent
  pub spaced : Spaced shared lent
  -- an empty van that holds two boxes; doors 1 and 2 have one each, and door 3 takes both
  pub loads : TwoKeep boxes
  -- the verdicts of the six say so: all but these two break the rule, with door 3 as their first fault
  pub says : map (verdict boxes (side_of boxes)) six
      ≡ is.Allowed ∷ is.Allowed ∷ is.Breaks 3 ∷ is.Breaks 3 ∷ is.Breaks 3 ∷ is.Breaks 3 ∷ []

abbrev pub WorkedCases : Type 0
WorkedCases = (lent : List Place) → WorkedOut lent
