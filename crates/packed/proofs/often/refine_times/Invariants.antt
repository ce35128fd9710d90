-- The answer and the records are those of the refines before.
use Rattle.std.proofs.Common.{◌≡◌, length}
use Rattle.packed.specs.Often.{turns}
use Rattle.packed.proofs.often.refine_times.Given as goal

abbrev pub invariant-loop-turn : goal.invariant-loop-turn
invariant-loop-turn l =
    (length l.records ≡ 2049) × (l.answer ≡ (turns l.room.round.now l.room.width l.turn).0) × (l.records ≡ (turns l.room.round.now l.room.width l.turn).1)
