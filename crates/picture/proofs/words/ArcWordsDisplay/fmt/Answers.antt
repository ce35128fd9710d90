use Rattle.std.proofs.Common.{rules, arith, Bor, ◌+◌, ◌<◌, List, ℕ, ◌∷◌, ◌++◌, decimal, length, slice_index, take, sym, ap, ◌∙◌}
use Rattle.std.proofs.Output.{has_written_append, has_written_of_eq}
use Rattle.picture.specs.Words.{arc_words}
use Rattle.picture.proofs.Spaced.{gap, joined, joined-more, gap-more, spaced-none, spaced-some, arc_words-more, arc_words-same, arcs_text-is}
use Rattle.picture.proofs.words.ArcWordsDisplay.fmt.Goals as goal
use Rattle.picture.proofs.words.ArcWordsDisplay.fmt.Goals.{then-target-ne0+in_ok-write, else-target-ne0}

pub loop-k-preserved : goal.loop-k-preserved
loop-k-preserved g c =
    let to = c.args.self.now.0 in
    let k = c.loop-k.k in
    let inside : k < length to = omega arith in
    let ws = arc_words (take k to) in
    let word = decimal (k + 1) ++ 58 ∷ decimal (slice_index to k) in
    let so = c.loop-k.invariant in
    elim c.if-target-ne0.branch [
      | then-target-ne0+in_ok-write w ↦
          let next = arc_words-more to k inside w.if-target-ne0.true in
          record {
            written = λ plain.
                has_written_of_eq _ _ _ _ _ (ap (λ (t : List ℕ). joined ws ++ (t ++ word)) so.gap ∙ joined-more ws word ∙ ap joined next)
                (has_written_append _ _ _ _ _ _ (so.written plain) (search rules));
            gap = ap (λ (b : Bor (List ℕ)). b.now) w.gap-is ∙ sym (gap-more ws word) ∙ ap gap next;
            text = search rules;
          }
      | else-target-ne0 w ↦
          let next = arc_words-same to k inside w.if-target-ne0.false in
          record {
            written = λ plain. has_written_of_eq _ _ _ _ _ (ap joined next) (search (rules, so.written plain));
            gap = ap (λ (b : Bor (List ℕ)). b.now) w.gap-is ∙ so.gap ∙ ap gap next;
            text = search rules;
          }
    ]

pub returns-in_ok-write-2-clause-writes : goal.returns-in_ok-write-2-clause-writes
returns-in_ok-write-2-clause-writes g c = λ plain ok.
    let to = c.args.self.now.0 in
    let k = c.loop-k.k in
    let so = c.loop-k.invariant in
    has_written_of_eq _ _ _ _ _ (spaced-none (arc_words (take k to)) _ so.gap (sym c.is_empty.ensures ∙ c.if-is_empty.true) ∙ arcs_text-is to k (omega arith))
    (has_written_append _ _ _ _ _ _ (so.written plain) (search rules))

pub returns-else-is_empty-clause-writes : goal.returns-else-is_empty-clause-writes
returns-else-is_empty-clause-writes g c = λ plain ok.
    let to = c.args.self.now.0 in
    let k = c.loop-k.k in
    let so = c.loop-k.invariant in
    has_written_of_eq _ _ _ _ _ (spaced-some (arc_words (take k to)) _ so.gap (sym c.is_empty.ensures ∙ c.if-is_empty.false) ∙ arcs_text-is to k (omega arith))
    (so.written plain)
