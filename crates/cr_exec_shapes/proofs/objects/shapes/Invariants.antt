use Rattle.std.proofs.Common.{◌≡◌, ℕ, ◌<◌, [], length, slice_index_or}
use Rattle.cr_meaning_operations.specs.Operations.{kind_at, object_shape}
use Rattle.cr_exec_shapes.proofs.objects.shapes.Given as goal

abbrev pub invariant-loop-node : goal.invariant-loop-node
invariant-loop-node l = record {
  count : length l.shapes.items ≡ l.node;
  each : (k : ℕ) → k < l.node → slice_index_or l.shapes.items k [] ≡ object_shape l.types k (kind_at l.types k);
}
