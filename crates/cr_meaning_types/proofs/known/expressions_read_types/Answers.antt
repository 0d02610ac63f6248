use Rattle.cr_meaning_types.proofs.KnownLemmas.Known.{readable}
use Rattle.cr_meaning_types.proofs.known.expressions_read_types.Goals as goal

pub returns : goal.returns
returns c = readable
