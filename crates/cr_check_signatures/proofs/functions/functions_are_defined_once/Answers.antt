use Rattle.cr_check_signatures.proofs.FunctionsLemmas.Followed.{defined_once}
use Rattle.cr_check_signatures.proofs.functions.functions_are_defined_once.Goals as goal

pub returns : goal.returns
returns c = defined_once
