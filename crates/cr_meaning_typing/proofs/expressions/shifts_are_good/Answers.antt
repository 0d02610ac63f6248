use Rattle.cr_meaning_typing.proofs.ExpressionsLemmas.Operators.{shifts}
use Rattle.cr_meaning_typing.proofs.expressions.shifts_are_good.Goals as goal

pub returns : goal.returns
returns c = shifts
