-- A diagram that is opened and refined, or asked, so many times over.
use Rattle.std.specs.Prelude.{ℕ, zero, suc, Ok, Err, Result, count_ones, ◌==◌, if◌then◌else◌}
use Rattle.std.specs.Int.{from_bool}
use Rattle.std.specs.List.{sum_by}
use Rattle.round.specs.declared.table.Round.{Round}
use Rattle.layers.specs.Calls.{open_answer, after_open, refinement, after_refine, is_settled}
use Rattle.diagram.specs.Musts.{musts}
use Rattle.text.specs.declared.refusal.Refusal.{Refusal as TextRefusal}
use Rattle.packed.specs.declared.often.Question.{Question}
use Rattle.packed.specs.declared.often.Question.TheVariants.{Settled, Musts}
use Rattle.packed.specs.declared.refusal.Refusal.{Refusal}
use Rattle.packed.specs.declared.refusal.Refusal.TheVariants.{Text}
use Rattle.packed.specs.Answers.{word_of_refined}
use Rattle.packed.specs.Senses.{Recs, setting_for}
use Rattle.packed.specs.Sheets.{blank_records, opened_diagram, if_opened}

-- the answer of the last of k refines as a word, 0 if there is none, and the records that it leaves: each opens the diagram anew
-- on the records that the one before leaves
unfoldable pub turns : Round → ℕ → ℕ → ℕ × Recs
unfolding after_open refinement blank_records
turns r W zero = (0, blank_records r)
turns r W (suc k) =
    let p = refinement (setting_for r W) (after_open (setting_for r W) (turns r W k).1) in (word_of_refined p.0, p.1)

-- the answer on a round that is read, or on a text that is refused
abbrev pub often_of : ℕ → ℕ → Result Round TextRefusal → Result ℕ Refusal
often_of W times (Err e) = Err (Text e)
often_of W times (Ok r) = if_opened (open_answer r.n W 2049) (Ok (turns r W times).0)

-- ---- a diagram that is refined once, and asked so many times
-- the round's diagram of width W, opened on blank records and refined
unfoldable pub refined_diagram : Round → ℕ → Recs
unfolding refinement opened_diagram
refined_diagram r W = after_refine (setting_for r W) (opened_diagram r W)

-- the answer of a diagram in the records xs as a word: 1 if it is settled, else 0; or how many musts there are, the doors in all
-- their sets together
abbrev pub answer_word : Question → Round → ℕ → Recs → ℕ
answer_word Settled r W xs = from_bool (is_settled (setting_for r W) xs)
answer_word Musts r W xs = sum_by count_ones (musts r.n W xs)

-- the last of k answers, which are all x; 0 if there is none
abbrev pub last_answer : ℕ → ℕ → ℕ
last_answer k x = if k == 0 then 0 else x

-- the answer on a round that is read, or on a text that is refused: asking alters nothing, so each time it is the same
abbrev pub asked_often : Question → ℕ → ℕ → Result Round TextRefusal → Result ℕ Refusal
asked_often q W times (Err e) = Err (Text e)
asked_often q W times (Ok r) =
    if_opened (open_answer r.n W 2049) (Ok (last_answer times (answer_word q r W (refined_diagram r W))))
