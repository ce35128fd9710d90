-- Labels: what each arc brings to its target, and what a node gathers.
use Rattle.std.specs.Prelude.{ℕ, suc, ◌+◌, ◌^◌, min, Bool, true, false, if◌then◌else◌, not, ◌&&◌, ◌||◌, List, [], ◌∷◌, length, Some, None, fold, Option, unwrap_or, ◌==◌, bit_and, bit_or, count_ones, nat_lt, ℤ, pos, negsuc, ◌-ℤ◌, int_lt, slice_index_or}
use Rattle.std.specs.Int.{int_max, int_min}
use Rattle.std.specs.List.{range_with_len}
use Rattle.doors.specs.Sets.{has}
use Rattle.round.specs.declared.table.Round.{Round}
use Rattle.round.specs.Clock.{door, drive, finish}
use Rattle.rules.specs.Rules.{RuleSense}
use Rattle.tallies.specs.Tallies.{TallySense}
use Rattle.layers.specs.declared.node.Down.{Down}
use Rattle.layers.specs.declared.node.Up.{Up}
use Rattle.layers.specs.Net.{table, Outs, Layer, Net, node, width}
use Rattle.layers.specs.Flow.{gather, climbs_of, next}
use Rattle.layers.specs.Settings.{Setting}

-- the set of door j alone
abbrev pub bit_of : ℕ → ℕ
bit_of j = 2 ^ j

-- ---- legs
-- the lesser of a drive and the least so far
abbrev pub nearest : Option ℕ → ℕ → Option ℕ
nearest None d = Some d
nearest (Some e) d = Some (min e d)

-- the least drive to j from a member of the set m other than j, once place i is looked at too
unfoldable pub leg_step : Round → ℕ → ℕ → Option ℕ → ℕ → Option ℕ
leg_step r m j o i = if has m i && not (i == j) then nearest o (drive r i j) else o

-- from any member of m, of the yard and all doors; 0 if there is none
unfoldable pub leg : Round → ℕ → ℕ → ℕ
unfolding leg_step
leg r m j = unwrap_or (fold (leg_step r m j) None (range_with_len 0 (r.n + 1))) 0

-- ---- upward
-- the last minute to leave a node with the last places m over an arc by door j, where t is that to leave its target: the work
-- at j has to end before j closes, and by t
unfoldable pub late_over : Round → ℕ → ℤ → ℕ → ℤ
unfolding leg
late_over r m t j = int_min (pos (door r j).closes) t -ℤ pos ((door r j).work + leg r m j)

-- over an arc by door j from a node with the last places m to a node with these
abbrev pub climb : Round → ℕ → Up → ℕ → Up
climb r m u j = record { allup = bit_or u.allup (bit_of j); someup = bit_or u.someup (bit_of j); late = late_over r m u.late j }

-- what two arcs have together: the doors that both have, the doors that one has, and the later minute
abbrev pub merge_up : Up → Up → Up
merge_up u v = record { allup = bit_and u.allup v.allup; someup = bit_or u.someup v.someup; late = int_max u.late v.late }

-- on the end
abbrev pub end_up : Up
end_up = record { allup = 0; someup = 0; late = pos 9999 }

-- where no arc leads on, and in a place that is not in use: the minute is -40,000
abbrev pub no_up : Up
no_up = record { allup = 0; someup = 0; late = negsuc 39999 }

-- ---- downward: what stands at a node
module _ {S V : Type 0} (rule : RuleSense S) (tally : TallySense V) where
  -- the first node
  abbrev pub first_label : Down S V
  first_label = record { all = 0; some = 0; finish = 0; lasts = 1; state = rule.start; value = tally.start }

  -- the labels of layer 0: that of the first node
  abbrev pub first_labels : List (Option (Down S V))
  first_labels = Some first_label ∷ []

  -- a place that is not in use
  abbrev pub blank_label : Down S V
  blank_label = record { all = 0; some = 0; finish = 0; lasts = 0; state = rule.start; value = tally.start }

  -- what two arrivals, or what is gathered and one more, have together
  unfoldable pub merge : Down S V → Down S V → Down S V
  merge x y = record {
    all = bit_and x.all y.all;
    some = bit_or x.some y.some;
    finish = min x.finish y.finish;
    lasts = bit_or x.lasts y.lasts;
    state = rule.cover x.state y.state;
    value = tally.lesser x.value y.value;
  }

-- ---- an arc by door j from a node with the label l
-- the minute at which the work at j ends
abbrev pub arrival_finish : {S V : Type 0} → Round → Down S V → ℕ → ℕ
arrival_finish r l j = finish r l.finish (leg r l.lasts j) j

-- the cost so far
abbrev pub arrival_value : {S V : Type 0} → Round → TallySense V → Down S V → ℕ → V
arrival_value r tally l j = tally.step l.value j (leg r l.lasts j) (arrival_finish r l j)

-- what it brings to its target
unfoldable pub arrival_over : {S V : Type 0} → Setting S V → Down S V → ℕ → Down S V
unfolding leg
arrival_over by l j = record {
  all = bit_or l.all (bit_of j);
  some = bit_or l.some (bit_of j);
  finish = arrival_finish by.round l j;
  lasts = bit_of j;
  state = by.rule.step l.state j;
  value = arrival_value by.round by.tally l j;
}

-- the labels of the next layer, of which there are so many nodes; None for a node to which no path leads
unfoldable pub labels_next : {S V : Type 0} → Setting S V → List (Option (Down S V)) → Layer → ℕ → List (Option (Down S V))
unfolding next arrival_over merge
labels_next by = next (arrival_over by) (merge by.rule by.tally)

-- the last places of a node with this label
abbrev pub lasts_of : {S V : Type 0} → Option (Down S V) → ℕ
lasts_of None = 0
lasts_of (Some l) = l.lasts

-- the upward labels of the nodes of the first of these layers, whose downward labels are labs; None for a node from which no
-- path leads to the end
unfoldable pub ups : {S V : Type 0} → Setting S V → List (Option (Down S V)) → Net → List (Option Up)
unfolding late_over climbs_of gather labels_next
ups by labs [] = Some end_up ∷ []
ups by labs (L ∷ Ls) =
    let us = ups by (labels_next by labs L (width Ls)) Ls in
    table (length L) (λ a. gather merge_up (climbs_of (climb by.round (lasts_of (slice_index_or labs a None))) us 1 (node L a)))

-- ---- open: each of n layers has one node, and each node an arc for every door, to the one node of the next
abbrev pub all_doors : ℕ → Outs
all_doors n = table n (λ k. 1)

-- so for each of n layers
unfoldable pub opening_arcs : ℕ → Net
opening_arcs n = table n (λ i. all_doors n ∷ [])

-- ---- sweep: the arc by j from layer i, with h layers of arcs from there to the end, goes if one of six tests bars it:
--   1 j is in all of the source, 2 some with j has fewer than i + 1 doors, 3 the arrival's finish is above j's closes,
--   4 the rule bars j, 5 j is in allup of the target, 6 someup with j has fewer than h doors
abbrev pub is_barred : {S V : Type 0} → Round → RuleSense S → ℕ → ℕ → ℕ → Option (Down S V) → Option Up → Bool
is_barred r rule i h j None u = true
is_barred r rule i h j (Some l) None = true
is_barred r rule i h j (Some l) (Some u) =
    has l.all j
    || (nat_lt (count_ones (bit_or l.some (bit_of j))) (suc i)
    || (nat_lt (door r j).closes (arrival_finish r l j)
    || (rule.bars l.state j
    || (has u.allup j
    || nat_lt (count_ones (bit_or u.someup (bit_of j))) h))))

-- ---- cut: the arrival's value is above the ceiling c; the layer and the target have no say in it
abbrev pub is_above_ceiling : {S V : Type 0} → Round → TallySense V → V → ℕ → ℕ → ℕ → Option (Down S V) → Option Up → Bool
is_above_ceiling r tally c i h j None u = true
is_above_ceiling r tally c i h j (Some l) u = not (tally.not_above (arrival_value r tally l j) c)

-- ---- backsweep: the arrival finishes after the last minute to leave the target; the layer has no say in it
abbrev pub is_past_late : {S V : Type 0} → Round → ℕ → ℕ → ℕ → Option (Down S V) → Option Up → Bool
is_past_late r i h j None u = true
is_past_late r i h j (Some l) None = true
is_past_late r i h j (Some l) (Some u) = int_lt u.late (pos (arrival_finish r l j))

-- ---- part: which in-arcs stay
module _ {S V : Type 0} (rule : RuleSense S) where
  -- two arrivals agree in all, some, finish, lasts and state
  unfoldable pub agree : Down S V → Down S V → Bool
  agree x y = x.all == y.all && (x.some == y.some && (x.finish == y.finish && (x.lasts == y.lasts && rule.same x.state y.state)))

  -- x agrees with each of them
  unfoldable pub agrees_with_all : Down S V → List (Down S V) → Bool
  unfolding agree
  agrees_with_all x [] = true
  agrees_with_all x (y ∷ ys) = agree x y && agrees_with_all x ys

  -- the first agrees with all others
  unfoldable pub all_agree : List (Down S V) → Bool
  unfolding agrees_with_all
  all_agree [] = true
  all_agree (x ∷ xs) = agrees_with_all x xs

-- the first, if there is one
abbrev pub first_arrival : {S V : Type 0} → List (Down S V) → Option (Down S V)
first_arrival [] = None
first_arrival (x ∷ xs) = Some x

-- what the arc by door j from the label l brings differs from x, the first arrival
abbrev pub differs_from_first : {S V : Type 0} → Setting S V → Option (Down S V) → Option (Down S V) → ℕ → Bool
differs_from_first by None o j = false
differs_from_first by (Some x) None j = false
differs_from_first by (Some x) (Some l) j = not (agree by.rule x (arrival_over by l j))
