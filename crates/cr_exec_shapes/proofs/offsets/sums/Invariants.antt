use Rattle.std.proofs.Common.{◌≡◌, ℕ, ◌<◌, length, take, slice_index_or, sum_by}
use Rattle.cr_typed.specs.Typed.{row_cells}
use Rattle.cr_exec_shapes.proofs.offsets.sums.Given as goal

abbrev pub invariant-loop-at : goal.invariant-loop-at
invariant-loop-at l = record {
  count : length l.sums ≡ l.at;
  each : (index : ℕ) → index < l.at → slice_index_or l.sums index 0 ≡ sum_by (row_cells l.typed) (take index l.members);
  cells : l.cells ≡ sum_by (row_cells l.typed) (take l.at l.members);
}
