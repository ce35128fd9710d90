use Rattle.std.proofs.Common.{◌≡◌, ℕ, ◌≤◌, List, length, Ok, sym, refl, ap, ◌∙◌, subst}
use Rattle.std.proofs.lemmas.Bool.{cond-true, le-ltb, ne_eqb}
use Rattle.layers.specs.declared.node.Node.{Node}
use Rattle.layers.specs.Calls.{must, must_answer}
use Rattle.layers.specs.Claim.{MustMeans}
use Rattle.layers.proofs.Main.{must-means}
use Rattle.diagram.proofs.Musts_each.{room-for}
use Rattle.diagram.proofs.reading.ReadingForm.must.Goals as goal

no-refusal : {S V : Type 0} (n W i j : ℕ) (xs : List (Node S V)) → 1 ≤ i → i ≤ n → 1 ≤ j → j ≤ n → (i ≡ j → ⊥) → must_answer n W i j xs ≡ Ok (must n W i j xs)
no-refusal n W i j xs a b c d e = rw (le-ltb i 1 a) (rw (le-ltb n i b) (rw (le-ltb j 1 c) (rw (le-ltb n j d) (rw (ne_eqb i j e) refl))))

pub returns : goal.returns
returns g c =
    let r = c.args.self.now.room in
    let n = r.round.now.n in
    let W = r.width in
    let xs = c.args.self.now.nodes.now in
    let i = c.args.i in
    let j = c.args.j in
    let most : n ≤ 16 = r.round.now.most in
    let e : c.must.result ≡ must n W i j xs = c.must.ensures ∙ cond-true _ _ _ (room-for n W (length xs) r.wide r.narrow most c.args.self.now.fits) in
    record { answer = ap Ok e ∙ sym (no-refusal n W i j xs c.if-i-lt1.false c.if-i-n.false c.if-j-lt1.false c.if-j-n.false c.if-i-j.false); paths = subst (MustMeans n W i j xs) (sym e) (must-means n W i j xs) }
