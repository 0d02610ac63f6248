use Rattle.cr_check_types.specs.Types.{Grows}
use Rattle.cr_check_types.specs.Shared.{IsWithAll}
use Rattle.cr_typed_columns.specs.Columns.{member_types}
use Rattle.cr_typed_columns.specs.Rows.{levels_upto, AreAllRows}
use Rattle.cr_typed_columns.proofs.plans.members.Given as goal

abbrev pub invariant-loop-at : goal.invariant-loop-at
invariant-loop-at l = record {
  made : AreAllRows l.table (member_types l.nodes l.checked) l.at l.members;
  grows : Grows l.fn.table l.table;
  levels : IsWithAll l.fn.table (levels_upto (member_types l.nodes l.checked) l.at) l.table;
}
