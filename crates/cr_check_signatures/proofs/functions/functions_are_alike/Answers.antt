use Rattle.cr_check_signatures.proofs.FunctionsLemmas.Followed.{functions_alike}
use Rattle.cr_check_signatures.proofs.functions.functions_are_alike.Goals as goal

pub returns : goal.returns
returns c = functions_alike
