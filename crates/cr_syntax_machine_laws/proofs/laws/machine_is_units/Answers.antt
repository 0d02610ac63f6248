use Rattle.cr_syntax_machine_laws.proofs.MachineUnit.{is_parsed}
use Rattle.cr_syntax_machine_laws.proofs.laws.machine_is_units.Goals as goal

pub returns : goal.returns
returns c = λ ts r h. is_parsed ts r h
