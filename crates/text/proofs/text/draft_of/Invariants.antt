use Rattle.std.proofs.Common.{◌≡◌, ◌+◌, ◌≤◌, length}
use Rattle.text.specs.Pieces.{lines_in}
use Rattle.text.specs.Steps.{Ready}
use Rattle.text.specs.Reading.{read_text, read_lines}
use Rattle.text.proofs.text.draft_of.Given as goal

abbrev pub invariant-loop-bytes : goal.invariant-loop-bytes
invariant-loop-bytes l = record {
  ready : Ready l.stage l.draft;
  numbered : l.number + length l.rest ≤ length l.text + 1;
  same : read_lines (lines_in l.rest) l.number l.stage l.draft ≡ read_text l.text;
}

abbrev pub decreases-loop-bytes : goal.decreases-loop-bytes
decreases-loop-bytes l = length l.rest
