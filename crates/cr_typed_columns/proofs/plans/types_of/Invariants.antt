use Rattle.std.proofs.Common.{◌≡◌, map, take}
use Rattle.cr_check_types.specs.Types.{type_at}
use Rattle.cr_typed_columns.specs.Columns.{member_type}
use Rattle.cr_typed_columns.specs.Rows.{type_in}
use Rattle.cr_typed_columns.proofs.plans.types_of.Given as goal

abbrev pub invariant-loop-member : goal.invariant-loop-member
invariant-loop-member l =
    map (type_in (type_at l.checked.table.now)) l.types.items ≡ map (member_type (type_at l.checked.table.now)) (take l.member-index l.members)
