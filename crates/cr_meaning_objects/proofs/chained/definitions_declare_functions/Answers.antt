use Rattle.cr_meaning_objects.proofs.ChainedLemmas.Known.{definitions}
use Rattle.cr_meaning_objects.proofs.chained.definitions_declare_functions.Goals as goal

pub returns : goal.returns
returns c = definitions
