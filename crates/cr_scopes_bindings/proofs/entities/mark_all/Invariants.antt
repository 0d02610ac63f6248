use Rattle.std.proofs.Common.{◌≡◌, ◌==◌, ◌<◌, ℕ, true, false, length, take, slice_index_or, if◌then◌else◌}
use Rattle.std.specs.List.{list_any}
use Rattle.cr_scopes_bindings.proofs.entities.mark_all.Given as goal

abbrev pub invariant-loop-token : goal.invariant-loop-token
invariant-loop-token l = record {
  count : length l.column.items ≡ length l.initial.column.items;
  each : (k : ℕ) → k < length l.initial.column.items → slice_index_or l.column.items k false
      ≡ (if list_any (λ d. d == k) (take l.token-index l.declared) then true else slice_index_or l.initial.column.items k false);
}
