use Rattle.cr_meaning.proofs.Merging.{nothing_has_no_sets}
use Rattle.cr_meaning.proofs.laws.nothing_has_no_sets.Goals as goal

pub returns : goal.returns
returns c = nothing_has_no_sets
