use Rattle.std.proofs.Common.{◌≡◌, ℕ, ◌<◌, false, [], length, slice_index_or}
use Rattle.cr_meaning_operations.specs.Shapes.{structure_cells}
use Rattle.cr_exec_shapes.proofs.cells.structures.Given as goal

abbrev pub invariant-loop-node : goal.invariant-loop-node
invariant-loop-node l = record {
  count : length l.structures.items ≡ l.node;
  each : (k : ℕ) → k < l.node → slice_index_or l.structures.items k [] ≡ structure_cells (length l.types.nodes) l.types false k;
}
