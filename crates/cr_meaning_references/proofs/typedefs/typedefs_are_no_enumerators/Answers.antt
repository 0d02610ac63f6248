use Rattle.cr_meaning_references.proofs.TypedefsLemmas.Files.{no_enumerators}
use Rattle.cr_meaning_references.proofs.typedefs.typedefs_are_no_enumerators.Goals as goal

pub returns : goal.returns
returns c = no_enumerators
