use Rattle.std.proofs.Common.{◌≡◌, ◌<◌, ℕ, true, slice_index}
use Rattle.cr_check_types.specs.Types.{type_at}
use Rattle.cr_check_types.specs.Relations.{are_compatible, bare}
use Rattle.cr_check_types.proofs.table.Table.agree_in_parameters.Given as goal

abbrev pub invariant-loop-at : goal.invariant-loop-at
invariant-loop-at l =
    (k : ℕ) → k < l.at → are_compatible (bare (type_at l.self (slice_index l.left k))) (bare (type_at l.self (slice_index l.right k))) ≡ true
