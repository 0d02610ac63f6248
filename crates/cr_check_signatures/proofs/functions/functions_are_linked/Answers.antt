use Rattle.cr_check_signatures.proofs.FunctionsLemmas.Linked.{functions}
use Rattle.cr_check_signatures.proofs.functions.functions_are_linked.Goals as goal

pub returns : goal.returns
returns c = functions
