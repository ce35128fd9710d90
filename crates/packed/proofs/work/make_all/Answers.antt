use Rattle.std.proofs.Common.{◌≡◌, ℕ, ◌+◌, ◌*◌, ◌++◌, List, [], length, unwrap_or, take, drop, refl, ap, ap₂, sym, ◌∙◌, arith}
use Rattle.std.specs.Int.{to_le_bytes, w32}
use Rattle.layers.specs.Settings.{setting}
use Rattle.layers.specs.Calls.{answer_of, after_call, after_calls}
use Rattle.diagram.specs.Words.{room_of, records_of}
use Rattle.packed.specs.Answers.{word_of, answers}
use Rattle.packed.specs.Requests.{Request, first_requests}
use Rattle.packed.specs.Senses.{Recs, doors_sense, setting_by}
use Rattle.rules.specs.Sides.{side_sense}
use Rattle.packed.specs.Words.{bytes_of, begun_with}
use Rattle.packed.proofs.Bytes.{begun-more}
use Rattle.packed.proofs.Lists.{taken, unwrap-more, length-first, run-more, answers-more, length-answers}
use Rattle.packed.proofs.work.make_all.Goals as goal
use Rattle.packed.proofs.work.make_all.Goals.{in-Some, in_default}

pub loop-k-init : goal.loop-k-init
unfolding first_requests answers begun_with bytes_of
loop-k-init c = record { room = refl; records = refl; out = refl }

pub loop-k-preserved : goal.loop-k-preserved
loop-k-preserved c =
    let bs : List ℕ = c.args.calls.now in
    let k : ℕ = c.loop-k.k in
    let t = taken bs k c.requires.calls (omega arith) in
    let by = setting_by c.args.diagram.now c.args.rule.now c.args.tally.now in
    let xs : Recs = records_of c.args.diagram.now in
    let out : List ℕ = c.args.out.now in
    let cs : List Request = unwrap_or (first_requests bs k) [] in
    let inv = c.loop-k.invariant in
    elim c.match-call_at.branch [
      | in-Some w ↦
          let call : Request = w.in-Some.call in
          let still = ap (λ m. setting m.round.now (side_sense c.args.rule.now) (doors_sense c.args.tally.now) m.width) inv.room in
          let more = unwrap-more bs k call t.0 (sym c.call_at.ensures ∙ w.in-Some.is) in
          let at : 4 * k ≡ 4 * length (answers by cs xs) = omega (arith, length-answers by cs xs, length-first bs k t.0) in
          record {
            room = ap room_of w.diagram-is ∙ w.make.ensures.room ∙ inv.room;
            records =
                ap records_of w.diagram-is
                ∙ w.make.ensures.records
                ∙ ap₂ (λ by (xs : Recs). after_call by call xs) still inv.records
                ∙ sym (ap (λ cs. after_calls by cs xs) more ∙ run-more by cs call xs);
            out =
                w.out-is
                ∙ w.put_word.ensures
                ∙ ap₂ (λ (o : List ℕ) (v : ℕ). take (4 * k) o ++ (to_le_bytes w32 v ++ drop (4 * k + 4) o)) inv.out
                (w.make.ensures.answer ∙ ap₂ (λ by (xs : Recs). word_of (answer_of by call xs)) still inv.records)
                ∙ begun-more (answers by cs xs) (word_of (answer_of by call (after_calls by cs xs))) out (4 * k) at
                ∙ ap (λ ws. begun_with ws out) (sym (ap (λ cs. answers by cs xs) more ∙ answers-more by cs call xs));
          }
      | in_default w ↦ absurd (grind (arith, c.call_at.ensures, w.in_default.not-Some))
    ]
