-- What a call answers, for contracts.
use Rattle.layers.specs.declared.call.Answer.{Answer}
use Rattle.layers.specs.declared.call.Answer.TheVariants.{Removed, Done, Refined as RefineDone}
use Rattle.layers.specs.declared.refined.Refined.{Refined}

-- the fact holds of what a refine answers; of any other answer nothing is said
abbrev pub IfRefined : Answer → (Refined → Type 0) → Type 0
IfRefined (Removed count) P = Unit {0}
IfRefined (Done done) P = Unit {0}
IfRefined (RefineDone refined) P = P refined
