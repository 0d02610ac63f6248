use Rattle.std.proofs.Common.{◌≡◌, ◌<◌, ℕ, Some, length, slice_get}
use Rattle.cr_scopes.specs.Resolved.{nobody}
use Rattle.cr_scopes.proofs.entities.nobodies.Given as goal

abbrev pub invariant-loop-k : goal.invariant-loop-k
invariant-loop-k l = record {
  whole : length l.entities.items ≡ l._k;
  each : (j : ℕ) → j < l._k → slice_get l.entities.items j ≡ Some nobody;
}
