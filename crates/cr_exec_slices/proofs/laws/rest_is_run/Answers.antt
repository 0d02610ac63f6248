use Rattle.cr_exec_slices.proofs.Ways.{rest_is_run}
use Rattle.cr_exec_slices.proofs.laws.rest_is_run.Goals as goal

pub returns : goal.returns
returns c = rest_is_run
