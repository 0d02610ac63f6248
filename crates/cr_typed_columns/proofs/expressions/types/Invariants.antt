use Rattle.std.proofs.Common.{◌≡◌, map}
use Rattle.cr_check_types.specs.Types.{type_at}
use Rattle.cr_typed_columns.specs.Expressions.{type_of_node}
use Rattle.cr_typed_columns.specs.Rows.{listed, type_in}
use Rattle.cr_typed_columns.proofs.expressions.types.Given as goal

abbrev pub invariant-loop-at : goal.invariant-loop-at
invariant-loop-at l = map (type_in (type_at l.checked.table.now)) l.types.items ≡ listed (type_of_node l.checked) l.at
