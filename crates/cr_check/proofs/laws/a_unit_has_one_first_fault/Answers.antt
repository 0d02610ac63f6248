use Rattle.cr_check.proofs.NameFaults.{one_name_fault}
use Rattle.cr_check.proofs.OneFault.{one_fault}
use Rattle.cr_check.proofs.laws.a_unit_has_one_first_fault.Goals as goal

pub returns-clause-names : goal.returns-clause-names
returns-clause-names c = one_name_fault

pub returns-clause-types : goal.returns-clause-types
returns-clause-types c = one_fault
