use Rattle.cr_library.proofs.Agreement.{agreement_is_tested}
use Rattle.cr_library.proofs.laws.agreement_is_tested.Goals as goal

pub returns : goal.returns
returns c = agreement_is_tested
