use Rattle.cr_meaning_orders.proofs.Typed.{fixed_programs_mean_one_thing}
use Rattle.cr_meaning_orders.proofs.laws.fixed_programs_mean_one_thing.Goals as goal

pub returns : goal.returns
returns c = fixed_programs_mean_one_thing
