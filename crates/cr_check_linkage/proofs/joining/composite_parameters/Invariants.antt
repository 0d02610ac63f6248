use Rattle.std.proofs.Common.{◌≡◌, ◌++◌, map, drop}
use Rattle.cr_check_types.specs.Types.{type_at, Grows}
use Rattle.cr_check_types.specs.Relations.{AreRows}
use Rattle.cr_check_linkage.specs.NameTypes.{composite_parameters}
use Rattle.cr_check_linkage.proofs.joining.composite_parameters.Given as goal

abbrev pub invariant-loop-k : goal.invariant-loop-k
invariant-loop-k l = record {
  grows : Grows l.initial.table l.table;
  within : AreRows l.table l.rows.items;
  is : map (type_at l.table) l.rows.items ++ composite_parameters (map (type_at l.initial.table) (drop l.k l.earlier)) (map (type_at l.initial.table) (drop l.k l.own))
      ≡ composite_parameters (map (type_at l.initial.table) l.earlier) (map (type_at l.initial.table) l.own);
}
