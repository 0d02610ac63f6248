use Rattle.cr_meaning.proofs.Merging.{sequenced_never_conflict}
use Rattle.cr_meaning.proofs.laws.sequenced_never_conflict.Goals as goal

pub returns : goal.returns
returns c = sequenced_never_conflict
