use Rattle.cr_meaning_types.proofs.FittingLemmas.Bounding.{bounded}
use Rattle.cr_meaning_types.proofs.fitting.types_are_bounded.Goals as goal

pub returns : goal.returns
returns c = bounded
