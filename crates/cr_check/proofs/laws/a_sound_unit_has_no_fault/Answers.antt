use Rattle.cr_check.proofs.Verdicts.{no_fault}
use Rattle.cr_check.proofs.laws.a_sound_unit_has_no_fault.Goals as goal

pub returns : goal.returns
returns c = no_fault
