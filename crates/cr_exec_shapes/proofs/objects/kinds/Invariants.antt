use Rattle.std.proofs.Common.{◌≡◌, ℕ, ◌<◌, [], length, map, slice_index_or}
use Rattle.cr_check_types.specs.Types.{type_at}
use Rattle.cr_meaning_operations.specs.Shapes.{shape_of}
use Rattle.cr_exec_shapes.proofs.objects.kinds.Given as goal

abbrev pub invariant-loop-row : goal.invariant-loop-row
invariant-loop-row l = record {
  count : length l.kinds.items ≡ l.row;
  each : (k : ℕ) → k < l.row → slice_index_or l.kinds.items k [] ≡ map (λ own. own.0) (shape_of l.types (type_at l.types.shapes k));
}
