use Rattle.std.proofs.Common.{◌≡◌, ℕ, [], slice_index_or}
use Rattle.pass_params.proofs.grouped.empty_rows.Given as goal

abbrev pub invariant-loop-k : goal.invariant-loop-k
invariant-loop-k l = (entity : ℕ) → slice_index_or l.rows.items entity [] ≡ []
