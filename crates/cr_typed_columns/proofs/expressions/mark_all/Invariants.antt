use Rattle.std.proofs.Common.{◌≡◌, ◌<◌, ◌||◌, ℕ, false, length, take, slice_index_or}
use Rattle.std.specs.List.{list_any}
use Rattle.cr_typed_columns.specs.Expressions.{fills_array}
use Rattle.cr_typed_columns.proofs.expressions.mark_all.Given as goal

abbrev pub invariant-loop-line : goal.invariant-loop-line
invariant-loop-line l = record {
  count : length l.marks.items ≡ length l.fn.marks.items;
  each : (i : ℕ) → i < length l.fn.marks.items → slice_index_or l.marks.items i false
      ≡ (slice_index_or l.fn.marks.items i false || list_any (fills_array l.table i) (take l.line-index l.lines));
}
