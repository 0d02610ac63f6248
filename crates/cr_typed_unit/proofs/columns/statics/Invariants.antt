use Rattle.std.proofs.Common.{◌≡◌, Some, slice_index_or}
use Rattle.cr_check_declarators.specs.Specifiers.{nothing}
use Rattle.cr_typed_columns.specs.Rows.{listed}
use Rattle.cr_check_initialised.specs.Durations.{is_static}
use Rattle.cr_typed_unit.proofs.columns.statics.Given as goal

abbrev pub invariant-loop-at : goal.invariant-loop-at
invariant-loop-at l =
    l.column.items ≡ listed (λ i. is_static l.tree (λ p. slice_index_or l.columns.specified.now p nothing) (Some i)) l.at
