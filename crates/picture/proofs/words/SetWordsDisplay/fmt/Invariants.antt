-- The numbers below j are written, and the gap is what stands ahead of one more.
use Rattle.std.proofs.Common.{◌≡◌}
use Rattle.std.specs.Fmt.{HasWritten, IsPlainFormatter}
use denote.Text.{Utf8}
use denote.Shadow.{shadow}
use Rattle.picture.specs.Words.{set_words}
use Rattle.picture.proofs.Spaced.{gap, joined}
use Rattle.picture.proofs.words.SetWordsDisplay.fmt.Given as goal

abbrev pub invariant-loop-j : goal.invariant-loop-j
invariant-loop-j g l = record {
  written : IsPlainFormatter l.initial.f → HasWritten g.W.Write.write_str_gives l.initial.f (joined (set_words l.self.0 l.j-counter)) l.f;
  gap : l.gap ≡ gap (set_words l.self.0 l.j-counter);
  text : shadow (Utf8 l.gap);
}
