use Rattle.cr_check_declarators.proofs.Agreed.{agreed}
use Rattle.cr_check_declarators.proofs.functions.parameters_agree.Goals as goal

pub returns : goal.returns
returns c = agreed _ _ _ _ c.agree_in_parameters.ensures
