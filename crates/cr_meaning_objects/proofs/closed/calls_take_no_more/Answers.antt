use Rattle.cr_meaning_objects.proofs.ClosedLemmas.Closed.{calls_closed}
use Rattle.cr_meaning_objects.proofs.closed.calls_take_no_more.Goals as goal

pub returns : goal.returns
returns c = calls_closed
