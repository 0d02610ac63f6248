use Rattle.cr_meaning_declarations.proofs.LinkedLemmas.Order.{in_order_is}
use Rattle.cr_meaning_declarations.proofs.linked.declarators_are_in_order.Goals as goal

pub returns : goal.returns
returns c = in_order_is
