use Rattle.std.proofs.Common.{◌≡◌, ◌<◌, ℕ, false, length, take, slice_index_or}
use Rattle.std.specs.List.{list_any}
use Rattle.cr_typed_columns.specs.Expressions.{fills_array}
use Rattle.cr_typed_columns.proofs.expressions.filling.Given as goal

abbrev pub invariant-loop-lines : goal.invariant-loop-lines
invariant-loop-lines l = record {
  count : length l.marks.items ≡ l.nodes;
  each : (i : ℕ) → i < l.nodes → slice_index_or l.marks.items i false
      ≡ list_any (λ lines. list_any (fills_array l.checked.table.now i) lines) (take l.lines-index l.checked.lines.now);
}
