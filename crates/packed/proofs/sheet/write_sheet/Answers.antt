use Rattle.std.proofs.Common.{◌≡◌, ℕ, ◌-◌, ◌*◌, List, length, take, drop, arith, ap, ap₂, ◌∙◌, sym}
use borrow.Rule.Slice.PartMut.{put_mid}
use Rattle.tallies.specs.Late.{late_sense}
use Rattle.layers.specs.Calls.{after_calls}
use Rattle.diagram.specs.Words.{room_of}
use Rattle.packed.specs.Answers.{answers}
use Rattle.packed.specs.Requests.{Request, requests_in}
use Rattle.packed.specs.Senses.{Recs, doors_sense, setting_for}
use Rattle.rules.specs.Sides.{side_sense}
use Rattle.packed.specs.Sheets.{head_words, opened_diagram, sheet_words}
use Rattle.packed.specs.Words.{count_word, begun_with}
use Rattle.packed.proofs.Bytes.{begun-behind}
use Rattle.packed.proofs.Lists.{length-requests}
use Rattle.packed.proofs.Long.{length-head_words}
use Rattle.packed.proofs.Parts.{setting-is, opened-is}
use Rattle.packed.proofs.sheet.write_sheet.Goals as goal

pub returns : goal.returns
unfolding sheet_words
returns c =
    let r = c.args.room.round.now in
    let W = c.args.room.width in
    let cs : List Request = requests_in c.args.calls.now in
    let out : List ℕ = c.args.out.now in
    let D : Recs = opened_diagram r W in
    let R = side_sense c.side-rule.result in
    let T = doors_sense c.of-tally.result in
    let late = ap (λ x. late_sense x.now.n x.now.doors) c.of-tally.ensures in
    let m = room_of c.open-diagram.result in
    let is = setting-is c.args.room m R T c.open-diagram.ensures.room c.side-rule.ensures late in
    let opened = c.open-diagram.ensures.records ∙ opened-is c.args.room m R T c.open-diagram.ensures.room c.side-rule.ensures late _ c.blank_node-records.ensures in
    let X : Recs = after_calls (setting_for r W) cs D in
    let left = c.make_all.ensures.records ∙ ap₂ (λ by (xs : Recs). after_calls by cs xs) is opened in
    let H : List ℕ = head_words r W (count_word (length cs)) X in
    let head = ap₂ (λ k (xs : Recs). head_words r W (count_word k) xs) (sym (length-requests c.args.calls.now c.requires.calls).1) left in
    let long : 88 ≡ 4 * length H = omega (arith, length-head_words r W (count_word (length cs)) X) in
    c.put_head.ensures
    ∙ ap (λ ws. begun_with ws (put_mid 88 (length out - 88) out c.make_all.new.out)) head
    ∙ begun-behind H (answers (setting_for r W) cs D) out c.make_all.new.out 88 long (omega (arith, c.requires.fits))
    (c.make_all.ensures.answers ∙ ap₂ (λ by (xs : Recs). begun_with (answers by cs xs) (take (length out - 88) (drop 88 out))) is opened)
