use Rattle.cr_check_types.specs.Types.{Grows}
use Rattle.cr_check_types.specs.Shared.{IsWithAll}
use Rattle.cr_typed_columns.specs.Columns.{plan_entries, plan_types}
use Rattle.cr_typed_columns.specs.Rows.{levels_upto, AreAllPuts}
use Rattle.cr_typed_columns.proofs.plans.plans.Given as goal

abbrev pub invariant-loop-at : goal.invariant-loop-at
invariant-loop-at l = record {
  made : AreAllPuts l.table (plan_entries l.checked) l.at l.plans;
  grows : Grows l.fn.table l.table;
  levels : IsWithAll l.fn.table (levels_upto (plan_types l.checked) l.at) l.table;
}
