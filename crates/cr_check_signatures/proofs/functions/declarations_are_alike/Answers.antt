use Rattle.cr_check_signatures.proofs.FunctionsLemmas.Chained.{declarations_alike}
use Rattle.cr_check_signatures.proofs.functions.declarations_are_alike.Goals as goal

pub returns : goal.returns
returns c = declarations_alike
