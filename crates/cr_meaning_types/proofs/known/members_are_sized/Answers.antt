use Rattle.cr_meaning_types.proofs.KnownLemmas.Sized.{sized}
use Rattle.cr_meaning_types.proofs.known.members_are_sized.Goals as goal

pub returns : goal.returns
returns c = sized
