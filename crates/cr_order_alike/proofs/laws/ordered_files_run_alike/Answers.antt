use Rattle.cr_order_alike.proofs.Alike.{alike, run}
use Rattle.cr_order_alike.proofs.laws.ordered_files_run_alike.Goals as goal

pub returns-clause-there : goal.returns-clause-there
returns-clause-there c = run c.left_to_right_is_an_order.ensures

pub returns-clause-only : goal.returns-clause-only
returns-clause-only c = alike c.fixed_files_run_alike.ensures
