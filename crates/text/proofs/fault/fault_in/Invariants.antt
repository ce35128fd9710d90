use Rattle.std.proofs.Common.{◌≡◌, ◌+◌, ◌≤◌, length}
use Rattle.text.specs.Pieces.{lines_in}
use Rattle.text.specs.Steps.{Ready}
use Rattle.text.specs.Reading.{read_text, read_lines}
use Rattle.text.proofs.Stops.{Reaches}
use Rattle.text.proofs.fault.fault_in.Given as goal

abbrev pub invariant-loop-bytes : goal.invariant-loop-bytes
invariant-loop-bytes l = record {
  short : length l.text ≤ 16384;
  ready : Ready l.stage l.draft;
  numbered : l.number + length l.rest ≤ length l.text + 1;
  same : read_lines (lines_in l.rest) l.number l.stage l.draft ≡ read_text l.text;
  reached : Reaches l.text l.rest l.number l.stage l.draft;
}

abbrev pub decreases-loop-bytes : goal.decreases-loop-bytes
decreases-loop-bytes l = length l.rest
