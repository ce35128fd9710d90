-- The calls before this one are made, and their answers are written.
use Rattle.std.proofs.Common.{◌≡◌, [], unwrap_or}
use Rattle.layers.specs.Calls.{after_calls}
use Rattle.diagram.specs.Words.{room_of, records_of}
use Rattle.packed.specs.Answers.{answers}
use Rattle.packed.specs.Requests.{first_requests}
use Rattle.packed.specs.Senses.{setting_by}
use Rattle.packed.specs.Words.{begun_with}
use Rattle.packed.proofs.work.make_all.Given as goal

abbrev pub invariant-loop-k : goal.invariant-loop-k
invariant-loop-k l =
    let by = setting_by l.initial.diagram l.rule l.tally in
    let xs = records_of l.initial.diagram in
    let cs = unwrap_or (first_requests l.calls l.k) [] in
    record {
      room : room_of l.diagram ≡ room_of l.initial.diagram;
      records : records_of l.diagram ≡ after_calls by cs xs;
      out : l.out ≡ begun_with (answers by cs xs) l.initial.out;
    }
