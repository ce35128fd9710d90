use Rattle.std.proofs.Common.{Bor, List, ℕ, slice_index_or, sym, take, drop, ◌++◌, ◌∙◌, ◌+◌, [], ap, take-append-drop}
use Rattle.std.proofs.lemmas.List.{take_more, drop_more}
use Rattle.std.proofs.lemmas.Slice.Zip.{all_zipped_more}
use Rattle.order_report.specs.Named.{IsDoorText}
use Rattle.order_report.proofs.named.doors_named.Goals as goal

pub returns-in-None : goal.returns-in-None
returns-in-None c =
    let words = c.args.words.now in
    let i = c.loop-word.word-index in
    let blank : Bor (List ℕ) = record { ref_ptr = (0, 0); now = [] } in
    record {
      ahead = take i words;
      rest = drop (i + 1) words;
      split = sym (take-append-drop i words) ∙ ap (λ (v : List (Bor (List ℕ))). take i words ++ v) (drop_more words i blank c.loop-word-test.true);
      named = (_, c.loop-word.invariant);
      stray = c.in-None.ensures;
    }

pub loop-word-preserved : goal.loop-word-preserved
loop-word-preserved c =
    let words = c.args.words.now in
    let i = c.loop-word.word-index in
    let blank : Bor (List ℕ) = record { ref_ptr = (0, 0); now = [] } in
    let longer = all_zipped_more (λ (s : Bor (List ℕ)). IsDoorText c.args.round.now.n s.now) _ _ (slice_index_or words i blank) c.in-Some.door c.loop-word.invariant c.in-Some.ensures in
    rw (take_more words i blank c.loop-word-test.true, c.in_ok-push-in-Some.ensures.items) longer
