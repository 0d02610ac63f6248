use Rattle.cr_meaning_types.proofs.KnownLemmas.Known.{known}
use Rattle.cr_meaning_types.proofs.known.types_are_known.Goals as goal

pub returns : goal.returns
returns c = known
