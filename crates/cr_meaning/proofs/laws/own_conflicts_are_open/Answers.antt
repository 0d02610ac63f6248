use Rattle.cr_meaning.proofs.Merging.{own_conflicts_are_open}
use Rattle.cr_meaning.proofs.laws.own_conflicts_are_open.Goals as goal

pub returns : goal.returns
returns c = own_conflicts_are_open
