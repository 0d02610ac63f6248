use Rattle.std.proofs.Common.{◌≡◌, ℕ, ◌<◌, length, slice_index_or}
use Rattle.cr_check_types.specs.Types.{types_of, type_at}
use Rattle.cr_exec_shapes.specs.Open.{is_open, AreListed, AreMarked}
use Rattle.cr_meaning_operations.specs.Shapes.{first_row}
use Rattle.cr_exec_shapes.proofs.numbers.numbers.Given as goal

abbrev pub invariant-loop-row : goal.invariant-loop-row
invariant-loop-row l = record {
  count : length l.numbers.items ≡ l.row;
  marks : length l.marks.items ≡ l.row;
  marked : AreMarked l.table l.marks.items;
  listed : AreListed is_open l.table l.open_rows.items l.row;
  each : (k : ℕ) → k < l.row → slice_index_or l.numbers.items k 0 ≡ first_row (types_of l.table) (type_at l.table k) 0;
}
