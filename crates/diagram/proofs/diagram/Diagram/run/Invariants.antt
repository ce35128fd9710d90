use Rattle.std.proofs.Common.{◌≡◌, drop}
use Rattle.layers.specs.Calls.{after_calls}
use Rattle.diagram.specs.Words.{room_of, records_of, setting_of}
use Rattle.diagram.proofs.diagram.Diagram.run.Given as goal

-- the calls that are left lead from the records of now to where all of them lead
abbrev pub invariant-loop-call : goal.invariant-loop-call
invariant-loop-call g l =
    let by = setting_of l.fn.self (g.R.Rule.sense l.fn.rule) (g.T.Tally.sense l.fn.tally) in
    (room_of l.self ≡ room_of l.fn.self) × (l.self.nodes.ghost_name ≡ l.fn.self.nodes.ghost_name)
    × (after_calls by (drop l.call-index l.fn.calls) (records_of l.self) ≡ after_calls by l.fn.calls (records_of l.fn.self))
