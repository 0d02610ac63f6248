use Rattle.std.proofs.Common.{◌≡◌, ℕ, ◌<◌, false, slice_index_or}
use Rattle.cr_check_types.specs.Types.{type_at}
use Rattle.cr_check_types.specs.Relations.{are_compatible}
use Rattle.cr_meaning_operations.specs.Shapes.{unqualified}
use Rattle.cr_exec_shapes.proofs.names.first_alike.Given as goal

abbrev pub invariant-loop-at : goal.invariant-loop-at
invariant-loop-at l =
    (k : ℕ) → k < l.at → are_compatible (unqualified (type_at l.table (slice_index_or l.others k 0))) (unqualified (type_at l.table l.row)) ≡ false
