use Rattle.cr_meaning_types.proofs.FittingLemmas.Fitting.{fits}
use Rattle.cr_meaning_types.proofs.fitting.typed_units_fit.Goals as goal

pub returns : goal.returns
returns c = fits
