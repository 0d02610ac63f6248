use Rattle.cr_tokens.proofs.Faults.{list_no_fault}
use Rattle.cr_tokens.proofs.laws.list_or_fault.Goals as goal

pub returns : goal.returns
returns c = list_no_fault
