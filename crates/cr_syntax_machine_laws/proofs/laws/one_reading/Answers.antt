use Rattle.cr_syntax_machine_laws.proofs.MachineOne as one
use Rattle.cr_syntax_machine_laws.proofs.laws.one_reading.Goals as goal

pub returns : goal.returns
returns c = λ ts s o o' z h h'. one.one_reading ts s z h h'
