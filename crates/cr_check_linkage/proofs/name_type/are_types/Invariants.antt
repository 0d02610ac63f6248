use Rattle.std.proofs.Common.{◌≡◌, take}
use Rattle.std.specs.List.{list_all}
use Rattle.cr_check_types.specs.Types.{type_at}
use Rattle.cr_check_expressions.specs.Ruled.{is_type}
use Rattle.cr_check_linkage.proofs.name_type.are_types.Given as goal

abbrev pub invariant-loop-row : goal.invariant-loop-row
invariant-loop-row l = l.all ≡ list_all (λ row. is_type (type_at l.table row)) (take l.row-index l.rows)
