use Rattle.std.proofs.Common.{◌≡◌, ◌<◌, List, length}
use Rattle.cr_check_types.specs.declared.shape.Shape as shape
use Rattle.cr_check_types.specs.Types.{type_at, Grows}
use Rattle.cr_check_types.specs.Shared.{levels_of, IsWithAll}
use Rattle.cr_typed_columns.specs.Levels.{wrapped}
use Rattle.cr_typed_columns.proofs.copying.raised.Given as goal

abbrev pub invariant-loop-level : goal.invariant-loop-level
invariant-loop-level l = record {
  within : l.made < length l.table;
  same : wrapped l.list.items (type_at l.table l.made) ≡ wrapped l.fn.list.items (type_at l.fn.table l.fn.row);
  grows : Grows l.fn.table l.table;
  levels : (start : List shape.Shape) → IsWithAll start (levels_of (type_at l.fn.table l.fn.row)) l.fn.table
      → IsWithAll start (levels_of (type_at l.table l.made)) l.table;
}

abbrev pub decreases-loop-level : goal.decreases-loop-level
decreases-loop-level l = length l.list.items
