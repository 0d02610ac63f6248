use Rattle.cr_typed_columns.proofs.Kept.{kept_grown}
use Rattle.cr_typed_columns.proofs.rows.row_once.Goals as goal

pub returns-in_ok-row-in-Function-clause-kept : goal.returns-in_ok-row-in-Function-clause-kept
returns-in_ok-row-in-Function-clause-kept c =
    kept_grown c.args.from.now c.args.table.now c.function.new.table c.args.known.now.items c.in_ok-row-in-Function.ensures.grows c.requires
