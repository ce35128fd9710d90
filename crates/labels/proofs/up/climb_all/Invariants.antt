use Rattle.std.proofs.Common.{◌≡◌, None, take, fold}
use Rattle.labels.specs.Passes.{up_by, taken_up}
use Rattle.labels.proofs.up.climb_all.Given as goal

abbrev pub invariant-loop-k : goal.invariant-loop-k
invariant-loop-k g l = l.got ≡ fold (λ got k. fold taken_up got (up_by l.round l.vs l.u k)) None (take l.k-index l.doors)
