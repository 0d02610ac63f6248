use Rattle.std.proofs.Common.{◌≡◌, ◌<◌, ℕ, None, length, slice_index_or}
use Rattle.cr_check_surroundings.specs.Previous.{before_in}
use Rattle.cr_check_surroundings.proofs.previous.place.Given as goal

abbrev pub invariant-loop-rest : goal.invariant-loop-rest
invariant-loop-rest l = record {
  count : length l.column.items ≡ length l.fn.column.items;
  each : (k : ℕ) → k < length l.fn.column.items → before_in l.parts None k (slice_index_or l.fn.column.items k None)
      ≡ before_in l.rest l.before k (slice_index_or l.column.items k None);
}

abbrev pub decreases-loop-rest : goal.decreases-loop-rest
decreases-loop-rest l = length l.rest
