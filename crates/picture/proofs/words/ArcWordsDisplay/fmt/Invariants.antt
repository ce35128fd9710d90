-- The arcs of the first k doors are written, and the gap is what stands ahead of one more.
use Rattle.std.proofs.Common.{◌≡◌, take}
use Rattle.std.specs.Fmt.{HasWritten, IsPlainFormatter}
use denote.Text.{Utf8}
use denote.Shadow.{shadow}
use Rattle.picture.specs.Words.{arc_words}
use Rattle.picture.proofs.Spaced.{gap, joined}
use Rattle.picture.proofs.words.ArcWordsDisplay.fmt.Given as goal

abbrev pub invariant-loop-k : goal.invariant-loop-k
invariant-loop-k g l = record {
  written : IsPlainFormatter l.initial.f → HasWritten g.W.Write.write_str_gives l.initial.f (joined (arc_words (take l.k l.self.0))) l.f;
  gap : l.gap ≡ gap (arc_words (take l.k l.self.0));
  text : shadow (Utf8 l.gap);
}
