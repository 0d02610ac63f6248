use Rattle.std.proofs.Common.{◌≡◌, ℕ, ◌<◌, [], length, slice_index_or}
use Rattle.cr_exec_shapes.specs.Types.{AreSums}
use Rattle.cr_exec_shapes.proofs.offsets.offsets.Given as goal

abbrev pub invariant-loop-node : goal.invariant-loop-node
invariant-loop-node l = record {
  count : length l.offsets.items ≡ l.node;
  each : (node : ℕ) → node < l.node → AreSums l.typed (slice_index_or l.typed.members node []) (slice_index_or l.offsets.items node []);
}
