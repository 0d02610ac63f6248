use Rattle.cr_syntax_machine_laws.proofs.MachineUnitComplete as complete
use Rattle.cr_syntax_machine_laws.proofs.laws.one_unit.Goals as goal

pub returns : goal.returns
returns c = λ ts limit t u x y. complete.one_unit x y
