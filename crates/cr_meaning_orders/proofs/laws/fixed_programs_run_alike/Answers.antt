use Rattle.cr_meaning_orders.proofs.Typed.{fixed_programs_run_alike}
use Rattle.cr_meaning_orders.proofs.laws.fixed_programs_run_alike.Goals as goal

pub returns : goal.returns
returns c = fixed_programs_run_alike
