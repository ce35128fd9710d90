-- What the list has past the diagram is never altered.
use Rattle.std.proofs.Common.{◌≡◌, ℕ, zero, suc, List, [], ◌∷◌, length, drop, refl, ap, subst, ◌∙◌, arith}
use Rattle.round.specs.declared.table.Round.{Round}
use Rattle.doors.specs.Orders.{StandsIn}
use Rattle.doors.specs.Sets.{Has}
use Rattle.rules.specs.Loads.{LiesBetween}
use Rattle.rules.specs.BothLaws.{both_lawful}
use Rattle.rules.specs.Keepers.{last_door}
use Rattle.rules.specs.KeepersLaws.{keepers_lawful}
use Rattle.rules.specs.LoadLaws.{load_lawful}
use Rattle.rules.specs.PairsLaws.{pairs_lawful}
use Rattle.rules.specs.Rules.{RuleLaws}
use Rattle.rules.specs.Sides.{SideState}
use Rattle.allowed.specs.Orders.{KeepsRules}
use Rattle.allowed.specs.Senses.{side_of, late_of}
use Rattle.layers.specs.declared.node.Node.{Node}
use Rattle.layers.specs.Records.{layers, arcs_of_layers}
use Rattle.layers.specs.declared.call.Call.TheVariants.{Refine}
use Rattle.layers.specs.Calls.{after_call, records_with, arcs}
use Rattle.layers.specs.Claim.{LabelsStand}
use Rattle.layers.proofs.Bridge.{later-stays}
use Rattle.layers.proofs.Main.{worked-out}
use Rattle.round_sheet.specs.Sheets.{Records, setting_for, places_of, refined_for}

-- the layers that have arcs are n
deep : {S V : Type 0} (n W k : ℕ) (xs : List (Node S V)) → length (arcs_of_layers n (layers W k xs)) ≡ k
deep n W zero xs = refl
deep n W (suc zero) xs = refl
deep n W (suc (suc k)) xs = ap suc (deep n W (suc k) (drop W xs))

-- which orders a state of pairs, load and keepers stands for
abbrev Stands : Round → SideState → List ℕ → Type 0
Stands r s w = (((i : ℕ) → StandsIn i w → Has s.0.0 i) × LiesBetween r.load r.doors s.0.1 w) × Has s.1 (last_door w)

-- the labels that stand in a diagram of the round are those worked out from its arcs
worked : (r : Round) → LabelsStand (λ n. r.n ≡ n) (side_of r) (late_of r)
worked r =
    worked-out {Keeps = KeepsRules r} {Stands = Stands r} (λ n. r.n ≡ n) (side_of r) (late_of r)
    (λ n e. subst (λ (k : ℕ). RuleLaws k (side_of r) (KeepsRules r) (Stands r)) e (both_lawful (both_lawful (pairs_lawful r.n r.ahead) (load_lawful r)) (keepers_lawful r)))

pub later_kept : (r : Round) (lent : Records) → drop (places_of r) (refined_for r lent).1 ≡ drop (places_of r) lent
unfolding after_call records_with
later_kept r lent =
    let xs = (refined_for r lent).1 in
    ap (drop (places_of r)) (worked r r refl 16 (omega arith) (omega arith) lent (Refine ∷ []))
    ∙ later-stays (setting_for r) (omega arith) (drop (places_of r) lent) (arcs r.n 16 xs) (deep r.n 16 r.n xs)
