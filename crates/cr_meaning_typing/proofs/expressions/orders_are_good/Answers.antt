use Rattle.cr_meaning_typing.proofs.ExpressionsLemmas.Operators.{orders}
use Rattle.cr_meaning_typing.proofs.expressions.orders_are_good.Goals as goal

pub returns : goal.returns
returns c = orders
