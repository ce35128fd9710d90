use Rattle.std.proofs.Common.{◌≡◌, ℕ, ◌-◌, ◌*◌, List, length, take, drop, arith, ap, ◌∙◌}
use borrow.Rule.Slice.PartMut.{put_mid}
use Rattle.diagram.specs.Musts.{musts}
use Rattle.packed.specs.Senses.{Recs}
use Rattle.packed.specs.Sheets.{must_words, first_words, head_words}
use Rattle.packed.specs.Words.{count_word, begun_with}
use Rattle.packed.proofs.Bytes.{begun-behind}
use Rattle.packed.proofs.Long.{length-first_words}
use Rattle.packed.proofs.head.put_head.Goals as goal

pub returns : goal.returns
unfolding head_words musts
returns c =
    let r = c.args.room.round.now in
    let W = c.args.room.width in
    let xs : Recs = c.args.diagram.now.nodes.now in
    let out : List ℕ = c.args.out.now in
    let F : List ℕ = first_words r W (count_word c.args.calls) xs in
    let M : List ℕ = must_words r.n W xs in
    let must : take 16 (drop 1 c.musts.result) ≡ M = ap (λ s. take 16 (drop 1 s)) c.musts.ensures.sets ∙ ap (λ m. must_words m.round.now.n m.width xs) c.requires.room in
    let long : 24 ≡ 4 * length F = omega (arith, length-first_words r W (count_word c.args.calls) xs) in
    c.put_words-2.ensures
    ∙ ap (λ ws. begun_with ws (put_mid 24 (length out - 24) out c.put_words.new.out)) c.first_words.ensures
    ∙ begun-behind F M out c.put_words.new.out 24 long (omega (arith, c.requires.fits))
    (c.put_words.ensures ∙ ap (λ ws. begun_with ws (take (length out - 24) (drop 24 out))) must)
