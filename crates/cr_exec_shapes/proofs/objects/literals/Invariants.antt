use Rattle.std.proofs.Common.{◌≡◌, ℕ, ◌<◌, None, length, slice_index_or}
use Rattle.cr_meaning_operations.specs.Operations.{kind_at, literal_by}
use Rattle.cr_exec_shapes.proofs.objects.literals.Given as goal

abbrev pub invariant-loop-node : goal.invariant-loop-node
invariant-loop-node l = record {
  count : length l.literals.items ≡ l.node;
  each : (k : ℕ) → k < l.node → slice_index_or l.literals.items k None ≡ literal_by l.types k (kind_at l.types k);
}
