use Rattle.cr_meaning_objects.proofs.ClosedLemmas.Closed.{closed}
use Rattle.cr_meaning_objects.proofs.closed.definitions_take_no_more.Goals as goal

pub returns : goal.returns
returns c = closed
