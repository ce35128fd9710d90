use Rattle.std.proofs.Common.{ℕ, ◌*◌, take, List, get_or, refl, arith, length-take}
use Rattle.std.proofs.lemmas.List.{take_more}
use Rattle.packed.specs.Words.{bytes_of, begun_with}
use Rattle.packed.proofs.Bytes.{begun-more}
use Rattle.packed.proofs.words.put_words.Goals as goal

pub loop-k-init : goal.loop-k-init
unfolding begun_with bytes_of
loop-k-init c = refl

pub loop-k-preserved : goal.loop-k-preserved
loop-k-preserved c =
    let words : List ℕ = c.args.words.now in
    let k : ℕ = c.loop-k.k in
    let more = take_more words k 0 c.loop-k-test.true in
    let put = begun-more (take k words) (get_or words k 0) c.args.out.now (4 * k) (omega (arith, length-take k words)) in
    cc
