use Rattle.cr_core.proofs.Totals.{total-marks}
use Rattle.cr_core.proofs.laws.each_entry_has_one_mark.Goals as goal

pub returns : goal.returns
returns c = total-marks
