use Rattle.cr_meaning_seen.proofs.Seeing.{sights_are_runs}
use Rattle.cr_meaning_seen.proofs.laws.sights_are_runs.Goals as goal

pub returns : goal.returns
returns c = sights_are_runs
