use Rattle.cr_tokens.proofs.Faults as faults
use Rattle.cr_tokens.proofs.laws.one_fault.Goals as goal

pub returns : goal.returns
returns c = faults.one_fault
