use Rattle.cr_exec_slices.proofs.Ways.{run_is_rest}
use Rattle.cr_exec_slices.proofs.laws.run_is_rest.Goals as goal

pub returns : goal.returns
returns c = run_is_rest
