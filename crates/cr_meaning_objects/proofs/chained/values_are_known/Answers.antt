use Rattle.cr_meaning_objects.proofs.ChainedLemmas.Known.{known_is}
use Rattle.cr_meaning_objects.proofs.chained.values_are_known.Goals as goal

pub returns : goal.returns
returns c = known_is
