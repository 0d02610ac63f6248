use Rattle.cr_meaning_types.proofs.FittingLemmas.Bounding.{structures}
use Rattle.cr_meaning_types.proofs.fitting.structures_are_bounded.Goals as goal

pub returns : goal.returns
returns c = structures
