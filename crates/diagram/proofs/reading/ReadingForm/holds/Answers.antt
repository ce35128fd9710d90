use Rattle.std.proofs.Common.{◌≡◌, ℕ, ◌≤◌, true, false, List, length, Ok, Err, ap, sym, ◌∙◌, rules, tests, arith}
use Rattle.std.proofs.lemmas.Bool.{cond-true}
use Rattle.std.proofs.lemmas.Bool.Decides.{nat_tests}
use Rattle.std.proofs.lemmas.Iterator.{YieldsList-from_slice}
use Rattle.std.proofs.lemmas.Iterator.Search.{all_from_yields_List}
use Rattle.std.specs.List.{list_all}
use Rattle.doors.specs.Orders.{is_door}
use Rattle.layers.specs.declared.node.Node.{Node}
use Rattle.layers.specs.declared.refusal.Refusal.TheVariants.{NoDoor}
use Rattle.layers.specs.Calls.{holds, holds_answer}
use Rattle.layers.proofs.Held.{holds-means}
use Rattle.diagram.proofs.Musts_each.{room-for}
use Rattle.diagram.proofs.reading.ReadingForm.holds.Goals as goal

module _ {S V : Type 0} (n W : ℕ) (w : List ℕ) (xs : List (Node S V)) (long : length w ≡ n) where
  no-refusal : list_all (is_door n) w ≡ true → holds_answer n W w xs ≡ Ok (holds n W w xs)
  no-refusal all = grind (arith, nat_tests)

  no-door : list_all (is_door n) w ≡ false → holds_answer n W w xs ≡ Err NoDoor
  no-door all = grind (arith, nat_tests)

pub returns-then-not-all-clause-answer : goal.returns-then-not-all-clause-answer
returns-then-not-all-clause-answer g c =
    let n = c.args.self.now.room.round.now.n in
    let w = c.args.doors.now in
    let all : c.all.result ≡ list_all (is_door n) w = all_from_yields_List (is_door n) _ _ c.all.result c.all.ensures.ran (YieldsList-from_slice w cc) (λ x b q k. search (rules, tests)) in
    sym (no-door n _ w _ (omega arith) (sym all ∙ c.if-not-all.true))

pub returns : goal.returns
returns g c =
    let d = c.args.self.now in
    let n = d.room.round.now.n in
    let W = d.room.width in
    let xs = d.nodes.now in
    let w = c.args.doors.now in
    let most : n ≤ 16 = d.room.round.now.most in
    let e : c.holds.result ≡ holds n W w xs = c.holds.ensures ∙ cond-true _ _ _ (room-for n W (length xs) d.room.wide d.room.narrow most d.fits) in
    let all : c.all.result ≡ list_all (is_door n) w = all_from_yields_List (is_door n) _ _ c.all.result c.all.ensures.ran (YieldsList-from_slice w cc) (λ x b q k. search (rules, tests)) in
    record { answer = ap Ok e ∙ sym (no-refusal n W w xs (omega arith) (sym all ∙ c.if-not-all.false)); path = rw e (holds-means n W w xs) }
