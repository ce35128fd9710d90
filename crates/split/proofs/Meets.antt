-- What is compared of two arrivals, in the order of their cost
use Rattle.std.proofs.Common.{◌^◌, bit_or, sym, ◌≡◌, ℕ, ◌≤◌, Bool, true, List, length, ◌&&◌, eqb, Some, Option, ap, ◌∙◌, arith}
use Rattle.std.specs.List.{All}
use Rattle.std.proofs.Math.Path.{fun_ext}
use Rattle.std.proofs.lemmas.Bool.Decides.{nat_tests}
use Rattle.std.proofs.lemmas.Nat.{pow_below}
use Rattle.layers.specs.declared.node.Down.{Down}
use Rattle.layers.specs.declared.node.Label.{Label}
use Rattle.layers.specs.declared.node.Node.{Node}
use Rattle.layers.specs.Labels.{bit_of, agree, all_agree, arrival_over, first_arrival}
use Rattle.layers.specs.Settings.{Setting}
use Rattle.labels.specs.Passes.{arrivals}
use Rattle.split.specs.declared.source.Source.{Source}
use Rattle.split.specs.Agreed.{brought, kept_by}
use Rattle.split.specs.Listed.{told_from, all_stay}
use Rattle.split.specs.Parted.{or_unused}
use Rattle.split.specs.Steps.{kept_first}
use Rattle.split.proofs.InArcs.{stay-alike}

in_turn : (a b c d e : Bool) → (d && (a && (b && (e && c)))) ≡ (a && (b && (c && (d && e))))
in_turn a b c d e = grind arith

bits-apart : (i j : ℕ) → eqb (2 ^ i) (2 ^ j) ≡ eqb i j
bits-apart i j = grind (arith, nat_tests, pow_below)

-- what is compared by the one door, once the doors are the same
same-door : (i j : ℕ) (f : ℕ → Bool) → (eqb i j && f j) ≡ (eqb i j && f i)
same-door i j f = grind (arith, nat_tests)

pub kept-agrees : {S V : Type 0} (by : Setting S V) (s : Source S V) (l : Down S V) (j : ℕ) → kept_by by.round by.rule s l j ≡ agree by.rule (brought by s) (arrival_over by l j)
unfolding kept_by agree arrival_over brought
kept-agrees by s l j =
    let x = arrival_over by s.label s.door in
    let y = arrival_over by l j in
    same-door s.door j (λ i. eqb (bit_or s.label.all (bit_of i)) y.all && (eqb (bit_or s.label.some (bit_of i)) y.some && (by.rule.same (by.rule.step s.label.state i) y.state && eqb x.finish y.finish)))
    ∙ ap (λ (q : Bool). q && (eqb x.all y.all && (eqb x.some y.some && (by.rule.same x.state y.state && eqb x.finish y.finish)))) (sym (bits-apart s.door j))
    ∙ in_turn (eqb x.all y.all) (eqb x.some y.some) (eqb x.finish y.finish) (eqb x.lasts y.lasts) (by.rule.same x.state y.state)

-- the test by the first arrival
pub kept-same : {S V : Type 0} (by : Setting S V) (s : Source S V) (o : Option (Down S V)) → Some (brought by s) ≡ o → or_unused (λ u j. kept_by by.round by.rule s u.down j) ≡ kept_first by o
kept-same {S} {V} by s o is =
    let f : Label S V → ℕ → Bool = λ u j. kept_by by.round by.rule s u.down j in
    let g : Label S V → ℕ → Bool = λ u j. agree by.rule (brought by s) (arrival_over by u.down j) in
    let same : f ≡ g = fun_ext (λ u. fun_ext (λ j. kept-agrees by s u.down j)) in
    ap or_unused same ∙ ap (kept_first by) is

-- whether all stay by that test is whether the arrivals agree
pub stay-said : {S V : Type 0} (by : Setting S V) (self : (x : S) → by.rule.same x x ≡ true) (us : List (Node S V)) (s : Source S V) (t : ℕ)
    → 1 ≤ t → All (λ u. length u.arcs.to ≡ 16) us → Some (brought by s) ≡ first_arrival (arrivals by t us) → all_stay (λ u j. kept_by by.round by.rule s u.down j) t (told_from 0 us) ≡ all_agree by.rule (arrivals by t us)
stay-said by self us s t one wide first = stay-alike by self (λ u j. kept_by by.round by.rule s u.down j) (brought by s) (λ u j. kept-agrees by s u.down j) t one us wide first
