use Rattle.cr_exec_slices.proofs.Ways.{one_rest}
use Rattle.cr_exec_slices.proofs.laws.one_rest.Goals as goal

pub returns : goal.returns
returns c = one_rest
