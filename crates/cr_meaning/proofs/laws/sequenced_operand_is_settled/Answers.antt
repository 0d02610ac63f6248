use Rattle.cr_meaning.proofs.Merging.{sequenced_operand_is_settled}
use Rattle.cr_meaning.proofs.laws.sequenced_operand_is_settled.Goals as goal

pub returns : goal.returns
returns c = sequenced_operand_is_settled
