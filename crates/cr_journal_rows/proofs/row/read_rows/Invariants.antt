use Rattle.std.proofs.Common.{◌≡◌, ◌≤◌, ◌++◌, All, drop, length, map, ◌<◌}
use Rattle.cr_journal_records.specs.Reading.{bodies_of}
use Rattle.cr_journal_rows.specs.Forms.{RowFits, row_body}
use Rattle.cr_journal_rows.proofs.row.read_rows.Given as goal
use Rattle.cr_cursor.specs.Variants.{pass_count}

abbrev pub invariant-loop-body : goal.invariant-loop-body
invariant-loop-body l = record {
  so_far : bodies_of l.bodies ≡ map row_body l.rows.items ++ bodies_of (drop l.body-index l.bodies);
  low : All (λ row. row.at.pass < pass_count) l.rows.items;
  fits : All RowFits l.rows.items;
}
