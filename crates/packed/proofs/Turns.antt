-- One refine after another.
use Rattle.std.proofs.Common.{◌≡◌, ℕ, ◌+◌, ap, add-one}
use Rattle.round.specs.declared.table.Round.{Round}
use Rattle.layers.specs.Calls.{after_open, refinement}
use Rattle.packed.specs.Answers.{word_of_refined}
use Rattle.packed.specs.Often.{turns}
use Rattle.packed.specs.Senses.{setting_for}

pub turns-more : (r : Round) (W k : ℕ) → turns r W (k + 1)
    ≡ (let p = refinement (setting_for r W) (after_open (setting_for r W) (turns r W k).1) in (word_of_refined p.0, p.1))
unfolding turns
turns-more r W k = ap (turns r W) (add-one k)
