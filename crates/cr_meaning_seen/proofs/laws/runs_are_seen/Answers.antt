use Rattle.cr_meaning_seen.proofs.Seeing.{runs_are_seen}
use Rattle.cr_meaning_seen.proofs.laws.runs_are_seen.Goals as goal

pub returns : goal.returns
returns c = runs_are_seen
