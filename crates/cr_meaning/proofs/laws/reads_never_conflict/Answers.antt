use Rattle.cr_meaning.proofs.Merging.{reads_never_conflict}
use Rattle.cr_meaning.proofs.laws.reads_never_conflict.Goals as goal

pub returns : goal.returns
returns c = reads_never_conflict
