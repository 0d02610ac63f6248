use Rattle.std.proofs.Common.{◌≡◌, map, take}
use Rattle.cr_check_types.specs.Types.{type_at, Grows}
use Rattle.cr_check_types.specs.Relations.{AreRows}
use Rattle.cr_check_declarators.specs.Functions.{adjusted_type}
use Rattle.cr_check_declarations.specs.Before.{before_at}
use Rattle.cr_check_declarations.proofs.lists.adjusted_rows.Given as goal

abbrev pub invariant-loop-part : goal.invariant-loop-part
invariant-loop-part l = record {
  grows : Grows l.initial.table l.table;
  within : AreRows l.table l.rows.items;
  is : map (type_at l.table) l.rows.items ≡ map (λ p. adjusted_type ((before_at l.initial.table l.columns).named p)) (take l.part-index l.list);
}
