use Rattle.std.proofs.Common.{rules, arith, Bor, ◌+◌, ◌≡◌, List, ℕ, [], ◌∷◌, ◌++◌, decimal, sym, ap, ◌∙◌}
use Rattle.std.proofs.Output.{has_written_append, has_written_of_eq}
use Rattle.std.proofs.lemmas.Bool.{cond-true, cond-false}
use Rattle.std.proofs.lemmas.List.{append-nil}
use Rattle.doors.specs.Sets.{has}
use Rattle.picture.specs.Words.{set_words}
use Rattle.picture.proofs.Spaced.{gap, joined, joined-more, gap-more, spaced-none, spaced-some, set_words-more, set_text-is}
use Rattle.picture.proofs.words.SetWordsDisplay.fmt.Goals as goal
use Rattle.picture.proofs.words.SetWordsDisplay.fmt.Goals.{then-contains+in_ok-write, else-contains}

pub loop-j-preserved : goal.loop-j-preserved
loop-j-preserved g c =
    let set = c.args.self.now.0 in
    let j = c.loop-j.j-counter in
    let ws = set_words set j in
    let so = c.loop-j.invariant in
    elim c.if-contains.branch [
      | then-contains+in_ok-write w ↦
          let next : ws ++ decimal j ∷ [] ≡ set_words set (j + 1) =
          ap (λ (t : List (List ℕ)). ws ++ t) (sym (cond-true (has set j) (decimal j ∷ []) [] (sym c.contains.ensures ∙ w.if-contains.true))) ∙ set_words-more set j in
          record {
            written = λ plain.
                has_written_of_eq _ _ _ _ _ (ap (λ (t : List ℕ). joined ws ++ (t ++ decimal j)) so.gap ∙ joined-more ws (decimal j) ∙ ap joined next)
                (has_written_append _ _ _ _ _ _ (so.written plain) (search rules));
            gap = ap (λ (b : Bor (List ℕ)). b.now) w.gap-is ∙ sym (gap-more ws (decimal j)) ∙ ap gap next;
            text = search rules;
          }
      | else-contains w ↦
          let next : ws ≡ set_words set (j + 1) =
          sym (append-nil ws) ∙ ap (λ (t : List (List ℕ)). ws ++ t) (sym (cond-false (has set j) (decimal j ∷ []) [] (sym c.contains.ensures ∙ w.if-contains.false))) ∙ set_words-more set j in
          record {
            written = λ plain. has_written_of_eq _ _ _ _ _ (ap joined next) (search (rules, so.written plain));
            gap = ap (λ (b : Bor (List ℕ)). b.now) w.gap-is ∙ so.gap ∙ ap gap next;
            text = search rules;
          }
    ]

pub returns-in_ok-write-2-clause-writes : goal.returns-in_ok-write-2-clause-writes
returns-in_ok-write-2-clause-writes g c = λ plain ok.
    let set = c.args.self.now.0 in
    let so = c.loop-j.invariant in
    has_written_of_eq _ _ _ _ _ (spaced-none (set_words set c.loop-j.j-counter) _ so.gap (sym c.is_empty.ensures ∙ c.if-is_empty.true) ∙ set_text-is set c.loop-j.j-counter (omega arith))
    (has_written_append _ _ _ _ _ _ (so.written plain) (search rules))

pub returns-else-is_empty-clause-writes : goal.returns-else-is_empty-clause-writes
returns-else-is_empty-clause-writes g c = λ plain ok.
    let set = c.args.self.now.0 in
    let so = c.loop-j.invariant in
    has_written_of_eq _ _ _ _ _ (spaced-some (set_words set c.loop-j.j-counter) _ so.gap (sym c.is_empty.ensures ∙ c.if-is_empty.false) ∙ set_text-is set c.loop-j.j-counter (omega arith))
    (so.written plain)
