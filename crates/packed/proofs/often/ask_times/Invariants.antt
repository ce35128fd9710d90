-- The answer is that of the times before.
use Rattle.std.proofs.Common.{◌≡◌}
use Rattle.diagram.specs.Words.{round_of, width_of, records_of}
use Rattle.packed.specs.Often.{answer_word, last_answer}
use Rattle.packed.proofs.often.ask_times.Given as goal

abbrev pub invariant-loop-turn : goal.invariant-loop-turn
invariant-loop-turn l = l.last ≡ last_answer l.turn (answer_word l.question (round_of l.diagram) (width_of l.diagram) (records_of l.diagram))
