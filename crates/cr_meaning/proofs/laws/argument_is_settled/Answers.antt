use Rattle.cr_meaning.proofs.Merging.{argument_is_settled}
use Rattle.cr_meaning.proofs.laws.argument_is_settled.Goals as goal

pub returns : goal.returns
returns c = argument_is_settled
