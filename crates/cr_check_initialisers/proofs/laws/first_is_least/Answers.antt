use Rattle.cr_check_expressions.proofs.Firsts.{first_among}
use Rattle.cr_check_initialisers.specs.Faults.{plan_faults}
use Rattle.cr_check_initialisers.proofs.laws.first_is_least.Goals as goal

pub returns : goal.returns
returns c = λ k static equals xs. first_among (plan_faults k static equals xs)
