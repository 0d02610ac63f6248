use Rattle.cr_check_signatures.proofs.FunctionsLemmas.Linked.{declarations}
use Rattle.cr_check_signatures.proofs.functions.declarations_are_linked.Goals as goal

pub returns : goal.returns
returns c = declarations
