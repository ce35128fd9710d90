use Rattle.std.proofs.Common.{◌∙◌, ℕ, arith, sym, ap}
use Rattle.std.proofs.lemmas.Int.{ints}
use Rattle.outlook.proofs.LoadSums.{load_upto, load-upto, upto_with, upto_without}
use Rattle.outlook.proofs.load_orders.load_after.Goals as goal
use Rattle.outlook.proofs.load_orders.load_after.Goals.{then-contains, else-contains}

pub loop-j-preserved : goal.loop-j-preserved
loop-j-preserved c =
    let r = c.args.round.now in
    elim c.if-contains.branch [
      | then-contains w ↦
          let more = upto_with r.load r.doors c.args.set c.loop-j.j (sym c.contains.ensures ∙ w.if-contains.true) in
          record { value = omega (arith, ints); low = omega (arith, ints); high = omega (arith, ints) }
      | else-contains w ↦
          let same = upto_without r.load r.doors c.args.set c.loop-j.j (sym c.contains.ensures ∙ w.if-contains.false) in
          record { value = omega (arith, ints); low = omega (arith, ints); high = omega (arith, ints) }
    ]

pub returns : goal.returns
returns c w p e =
    let r = c.args.round.now in
    let k = c.loop-j.j in
    c.loop-j.invariant.value ∙ ap (λ (m : ℕ). load_upto r.load r.doors m k) (sym e) ∙ sym (load-upto r.load r.doors r.n k (omega arith) w p)
