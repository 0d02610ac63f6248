use Rattle.std.proofs.Common.{◌≡◌, ℕ, ◌<◌, length, slice_index_or}
use Rattle.cr_meaning_operations.specs.Operations.{name_of}
use Rattle.cr_exec_table.proofs.nodes.names.Given as goal

abbrev pub invariant-loop-node : goal.invariant-loop-node
invariant-loop-node l = record {
  count : length l.names.items ≡ l.node;
  each : (k : ℕ) → k < l.node → slice_index_or l.names.items k 0 ≡ name_of l.types k;
}
