use Rattle.std.proofs.Common.{ℕ, ◌∙◌, sym, subst}
use Rattle.std.proofs.lemmas.Bool.{false≢true}
use Rattle.outlook.specs.LoadOrders.{KeepsLoadWithin}
use Rattle.outlook.proofs.DoorSets.{all-mask}
use Rattle.outlook.proofs.KeptSets.{keeps-all, all-keeps}
use Rattle.outlook.proofs.load_orders.order_keeping_load.Goals as goal

pub returns-then-is_kept : goal.returns-then-is_kept
returns-then-is_kept c =
    let r = c.args.round.now in let ahead = c.args.ahead.now in
    let w = c.in_ok-order_of.field-0.items in
    let some = c.is_kept.ensures.0 c.if-is_kept.true in
    keeps-all r ahead w (subst (λ (m : ℕ). KeepsLoadWithin r ahead m w) (all-mask r.n r.most) (c.in_ok-order_of.ensures some.0 some.1))

pub returns : goal.returns
returns c w k =
    let r = c.args.round.now in let ahead = c.args.ahead.now in
    let all = subst (λ (m : ℕ). KeepsLoadWithin r ahead m w) (sym (all-mask r.n r.most)) (all-keeps r ahead w k) in
    false≢true (sym c.if-is_kept.false ∙ c.is_kept.ensures.1 (w, all))
