use Rattle.cr_meaning.proofs.Merging.{operands_beside_are_united}
use Rattle.cr_meaning.proofs.laws.operands_beside_are_united.Goals as goal

pub returns : goal.returns
returns c = operands_beside_are_united
