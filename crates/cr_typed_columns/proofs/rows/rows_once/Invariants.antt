use Rattle.std.proofs.Common.{map, take}
use Rattle.cr_check_types.specs.Types.{type_at, Grows}
use Rattle.cr_check_types.specs.Shared.{IsWithAll}
use Rattle.cr_typed_columns.specs.Rows.{levels_of_all, type_in, AreKept, AreRowsOf}
use Rattle.cr_typed_columns.proofs.rows.rows_once.Given as goal

abbrev pub invariant-loop-named : goal.invariant-loop-named
invariant-loop-named l = record {
  made : AreRowsOf l.table (map (type_in (type_at l.from)) (take l.named-index l.types)) l.rows;
  grows : Grows l.fn.table l.table;
  levels : IsWithAll l.fn.table (levels_of_all (map (type_in (type_at l.from)) (take l.named-index l.types))) l.table;
  kept : AreKept l.from l.table l.known.items;
}
