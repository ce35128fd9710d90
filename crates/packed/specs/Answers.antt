-- The answers of calls as words.
use Rattle.std.specs.Prelude.{ℕ, List, [], ◌∷◌, Ok, Err}
use Rattle.rules.specs.Sides.{SideState}
use Rattle.layers.specs.declared.call.Answer.{Answer}
use Rattle.layers.specs.declared.call.Answer.TheVariants.{Removed, Done, Refined as RefineDone}
use Rattle.layers.specs.declared.refined.Refined.{Refined}
use Rattle.layers.specs.declared.refined.Refined.TheVariants.{Whole, Full}
use Rattle.layers.specs.Settings.{Setting}
use Rattle.layers.specs.Calls.{Outcome, answer_of, after_call}
use Rattle.layers.specs.Refusals.{number_of}
use Rattle.packed.specs.Requests.{Request}
use Rattle.packed.specs.Senses.{Recs}
use Rattle.packed.specs.Words.{count_word}

-- the word of a part or a join: 0 if it is done, or the number of its refusal
abbrev pub word_of_refusal : Outcome → ℕ
word_of_refusal (Ok done) = 0
word_of_refusal (Err e) = number_of e

-- the word of a refine: 0 for whole, or the layer that was full
abbrev pub word_of_refined : Refined → ℕ
word_of_refined Whole = 0
word_of_refined (Full i) = i

-- the word of an answer; of a sweep, a cut or a backsweep it is how many arcs it took out
abbrev pub word_of : Answer → ℕ
word_of (Removed count) = count_word count
word_of (Done done) = word_of_refusal done
word_of (RefineDone refined) = word_of_refined refined

-- the words of the answers of calls in turn, each on what the earlier ones leave
unfoldable pub answers : Setting SideState (ℕ × ℕ) → List Request → Recs → List ℕ
unfolding answer_of after_call
answers by [] xs = []
answers by (c ∷ cs) xs = word_of (answer_of by c xs) ∷ answers by cs (after_call by c xs)
