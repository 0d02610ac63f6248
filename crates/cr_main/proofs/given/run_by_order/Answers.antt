use Rattle.cr_main_replay.proofs.LawOfPrograms.{law_is_of_programs}
use Rattle.cr_main.proofs.OrderedLaw.{order_is_of_programs}
use Rattle.cr_main.proofs.given.run_by_order.Goals as goal

pub run_by_law-requires-clause-law : goal.run_by_law-requires-clause-law
run_by_law-requires-clause-law g c = λ sends shares. order_is_of_programs c.beside-law.result.limits

pub run_by_law-requires-else-any_order-clause-law : goal.run_by_law-requires-else-any_order-clause-law
run_by_law-requires-else-any_order-clause-law g c = λ sends shares. law_is_of_programs c.args.law.now.limits
