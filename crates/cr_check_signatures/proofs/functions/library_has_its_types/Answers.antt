use Rattle.cr_check_signatures.proofs.FunctionsLemmas.Chained.{library}
use Rattle.cr_check_signatures.proofs.functions.library_has_its_types.Goals as goal

pub returns : goal.returns
returns c = library
