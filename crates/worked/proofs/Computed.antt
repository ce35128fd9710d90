-- The worked cases, by computing; which orders are allowed, or keep the load, by their definitions (Kept).
use Rattle.std.proofs.Common.{◌≤◌, List, [], ◌∷◌, refl, arith}
use Rattle.round.specs.Clock.{finish}
use Rattle.rules.specs.Keepers.{any_other, all_share}
use Rattle.layers.specs.Calls.{after_open, after_sweep, arcs_lost, after_cut, after_backsweep, part_answer, after_part, refinement, bound, must, is_settled, holds}
use Rattle.worked.specs.Rounds.{trio, loose, shared}
use Rattle.worked.specs.Cases.{Place, Sheet, AsPrinted, ClosedEarly, Paired, LastMinutes, HeldLists, HandedLayers, Spaced, WorkedCases}
use Rattle.worked.proofs.Kept.{allowed, not_allowed, two-keep, spaced-one}

module _ (lent : List Place) where
  sheet-9 : (h : 9 ≤ 9999) → Sheet (trio 9 h) lent
  unfolding refinement after_open bound must finish any_other all_share
  sheet-9 h = record { whole = refl; low = refl; yes = refl; no' = refl; path = refl }

  sheet-8 : (h : 8 ≤ 9999) → Sheet (trio 8 h) lent
  unfolding refinement after_open bound must finish any_other all_share
  sheet-8 h = record { whole = refl; low = refl; yes = refl; no' = refl; path = refl }

  printed-9 : (h : 9 ≤ 9999) → AsPrinted (trio 9 h) lent
  unfolding after_sweep arcs_lost after_cut after_open bound finish any_other all_share
  printed-9 h = record {
    minutes = refl;
    is_allowed = allowed 9 h (omega arith);
    ends_late = refl;
    not_allowed = not_allowed 9 h;
    says_allowed = refl;
    says_closes = refl;
    drives = refl;
    lateness = refl;
    at_opening = refl;
    four_sweeps = refl;
    sheet = sheet-9 h;
    cut_none = refl;
    cut_three = refl;
  }

  printed-8 : (h : 8 ≤ 9999) → AsPrinted (trio 8 h) lent
  unfolding after_sweep arcs_lost after_cut after_open bound finish any_other all_share
  printed-8 h = record {
    minutes = refl;
    is_allowed = allowed 8 h (omega arith);
    ends_late = refl;
    not_allowed = not_allowed 8 h;
    says_allowed = refl;
    says_closes = refl;
    drives = refl;
    lateness = refl;
    at_opening = refl;
    four_sweeps = refl;
    sheet = sheet-8 h;
    cut_none = refl;
    cut_three = refl;
  }

  closed-7 : (h : 7 ≤ 9999) → ClosedEarly (trio 7 h) lent
  unfolding refinement after_open bound holds finish any_other all_share
  closed-7 h = record { whole = refl; none = refl; none_of_six = refl; first_node = refl }

  paired : Paired loose lent
  unfolding after_sweep arcs_lost after_part part_answer after_open refinement is_settled must finish any_other all_share
  paired = record { sweep_one = refl; parts = refl; before_part = refl; part_moves = refl; sweep_three = refl; full_at_2 = refl; not_settled = refl; whole_at_3 = refl; must_two = refl; must_three = refl }

  last-minutes : (h : 9 ≤ 9999) (i : 8 ≤ 9999) (k : 7 ≤ 9999) → LastMinutes (trio 9 h) (trio 8 i) (trio 7 k) lent
  unfolding refinement after_backsweep arcs_lost after_open finish any_other all_share
  last-minutes h i k = record { opened_at_9 = refl; goes_at_9 = refl; left_at_9 = refl; again_at_9 = refl; none_at_9 = refl; opened_at_8 = refl; left_at_8 = refl; none_at_7 = refl }

  held-lists : (h : 9 ≤ 9999) → HeldLists (trio 9 h) lent
  unfolding refinement after_open holds finish any_other all_share
  held-lists h = record { any_list = refl; one_of_six = refl; no_repeat = refl; length_first = refl; then_doors = refl }

  handed-layers : HandedLayers loose lent
  unfolding refinement after_open holds finish any_other all_share
  handed-layers = record { three_of_six = refl; how_many = refl; which = refl }

  spaced : Spaced shared lent
  unfolding refinement after_open holds finish any_other all_share
  spaced = record { broken = λ h. h [] 1 2 (3 ∷ []) refl ((λ e. cc), refl); kept = spaced-one; says = refl; full_at_3 = refl; whole_at_4 = refl; two_of_six = refl }

pub computed : WorkedCases
unfolding finish any_other all_share
computed lent = record {
  printed_at_9 = printed-9 lent (omega arith);
  printed_at_8 = printed-8 lent (omega arith);
  closed_at_7 = closed-7 lent (omega arith);
  paired = paired lent;
  last_minutes = last-minutes lent (omega arith) (omega arith) (omega arith);
  held_lists = held-lists lent (omega arith);
  handed_layers = handed-layers lent;
  spaced = spaced lent;
  loads = two-keep;
  says = refl;
}
