use Rattle.std.proofs.Common.{◌||◌, ℕ, false, slice_index_or}
use Rattle.cr_rows.specs.Columns.{AreOf}
use Rattle.cr_check_labels.proofs.repeating.any_of.Given as goal

abbrev pub invariant-loop-at : goal.invariant-loop-at
invariant-loop-at l =
    AreOf (λ (i : ℕ). slice_index_or l.cases i false || (slice_index_or l.defaults i false || slice_index_or l.names i false)) false l.at l.again.items
