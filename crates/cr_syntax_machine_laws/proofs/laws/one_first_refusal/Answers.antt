use Rattle.cr_syntax_machine_laws.proofs.MachineUnit.{only_refusal}
use Rattle.cr_syntax_machine_laws.proofs.UnitRefusals.{tree_is_not_refused}
use Rattle.cr_syntax_machine_laws.proofs.laws.one_first_refusal.Goals as goal

pub returns : goal.returns
returns c = record { only = λ ts x k r h o. only_refusal ts h o; tree = λ ts t r y h. tree_is_not_refused ts y h }
