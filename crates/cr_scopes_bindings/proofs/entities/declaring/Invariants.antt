use Rattle.std.proofs.Common.{◌≡◌, ◌<◌, ℕ, false, length, take, slice_index_or}
use Rattle.std.specs.List.{list_any}
use Rattle.cr_scopes_bindings.specs.Entities.{is_declared_by}
use Rattle.cr_scopes_bindings.proofs.entities.declaring.Given as goal

abbrev pub invariant-loop-entity : goal.invariant-loop-entity
invariant-loop-entity l = record {
  count : length l.column.items ≡ length l.names.of_token;
  each : (k : ℕ) → k < length l.names.of_token → slice_index_or l.column.items k false
      ≡ list_any (is_declared_by k) (take l.entity-index l.names.entities);
}
