use Rattle.std.proofs.Common.{◌≡◌, ◌==◌, ◌<◌, ℕ, Some, None, length, take, slice_index_or, if◌then◌else◌}
use Rattle.std.specs.List.{list_any}
use Rattle.cr_check_enclosing.proofs.parent.place.Given as goal

abbrev pub invariant-loop-part : goal.invariant-loop-part
invariant-loop-part l = record {
  count : length l.above.items ≡ length l.initial.above.items;
  each : (k : ℕ) → k < length l.initial.above.items → slice_index_or l.above.items k None
      ≡ (if list_any (λ p. p == k) (take l.part-index l.parts) then Some l.number else slice_index_or l.initial.above.items k None);
}
