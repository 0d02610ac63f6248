use Rattle.std.proofs.Common.{map, take}
use Rattle.cr_check_types.specs.Types.{Grows}
use Rattle.cr_check_types.specs.Shared.{IsWithAll}
use Rattle.cr_typed_columns.specs.Rows.{levels_of_all, put_entry, put_type, ArePuts}
use Rattle.cr_typed_columns.proofs.plans.copied_puts.Given as goal

abbrev pub invariant-loop-put : goal.invariant-loop-put
invariant-loop-put l = record {
  made : ArePuts l.table (map (put_entry l.from) (take l.put-index l.given)) l.puts;
  grows : Grows l.fn.table l.table;
  levels : IsWithAll l.fn.table (levels_of_all (map (put_type l.from) (take l.put-index l.given))) l.table;
}
