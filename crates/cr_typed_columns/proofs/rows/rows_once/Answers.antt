use Rattle.cr_check_types.specs.Types.{type_at}
use Rattle.cr_check_expressions.proofs.Kept.{grows_on}
use Rattle.cr_typed_columns.specs.declared.rows.Named.TheVariants.{Row}
use Rattle.cr_typed_columns.specs.Rows.{type_in}
use Rattle.cr_typed_columns.proofs.Grown.{row_next, levels_next}
use Rattle.cr_typed_columns.proofs.rows.rows_once.Goals as goal

pub loop-named-preserved : goal.loop-named-preserved
loop-named-preserved c =
    let h = c.loop-named.invariant in
    let is = c.in_ok-row.ensures in
    let old = c.loop-named.table in
    let new = c.row_once.new.table in
    let low = c.loop-named-test.true in
    rw c.in_ok-push.ensures.ok record {
      made = row_next old new (type_in (type_at c.args.from.now)) c.args.types.now c.loop-named.named-index (Row 0) c.loop-named.rows c.in_ok-row.row low is.grows h.made is.made;
      grows = grows_on c.args.table.now old new h.grows is.grows;
      levels = levels_next c.args.table.now old new (type_in (type_at c.args.from.now)) c.args.types.now c.loop-named.named-index (Row 0) low h.levels is.levels;
      kept = is.kept;
    }
