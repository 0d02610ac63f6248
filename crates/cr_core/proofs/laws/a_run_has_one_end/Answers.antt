use Rattle.cr_core.proofs.Totals.{one_end}
use Rattle.cr_core.proofs.laws.a_run_has_one_end.Goals as goal

pub returns : goal.returns
returns c = one_end
