use Rattle.cr_meaning_seen.proofs.Single.{sights_are_one}
use Rattle.cr_meaning_seen.proofs.laws.sights_are_one.Goals as goal

pub returns : goal.returns
returns c = sights_are_one
