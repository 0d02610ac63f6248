use Rattle.cr_meaning_objects.proofs.ChainedLemmas.Chained.{follow}
use Rattle.cr_meaning_objects.proofs.chained.declarations_follow.Goals as goal

pub returns : goal.returns
returns c = follow
