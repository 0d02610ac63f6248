use Rattle.cr_meaning_files.proofs.Assembled.{fits}
use Rattle.cr_meaning_files.proofs.laws.assembled_units_fit.Goals as goal

pub returns : goal.returns
returns c = fits
