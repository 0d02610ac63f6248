use Rattle.cr_meaning.proofs.Merging.{conflicts_are_meetings}
use Rattle.cr_meaning.proofs.laws.conflicts_are_meetings.Goals as goal

pub returns : goal.returns
returns c = conflicts_are_meetings
