use Rattle.cr_check_signatures.proofs.FunctionsLemmas.Outlines.{alike}
use Rattle.cr_check_signatures.proofs.functions.compatible_are_alike.Goals as goal

pub returns : goal.returns
returns c = alike
