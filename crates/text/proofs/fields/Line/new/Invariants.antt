use Rattle.std.proofs.Common.{◌≡◌, ℕ, ◌<◌, List, [], map, length, slice_index_or}
use Rattle.std.specs.Borrow.{Bor}
use Rattle.text.proofs.fields.Line.new.Given as goal

abbrev pub invariant-loop-field : goal.invariant-loop-field
invariant-loop-field l = record {
  callable : (goal.iterator-loop-field).can_next l.field-iterator;
  finite : (goal.iterator-loop-field).is_finite l.field-iterator;
  room : length l.fields ≡ 18;
  counted : l.count ≡ length l.yielded;
  kept : (k : ℕ) (d : Bor (List ℕ)) → k < 18 → (slice_index_or l.fields k d).now ≡ slice_index_or (map (λ f. f.now) l.yielded) k [];
}
