use Rattle.cr_meaning_orders.proofs.Leftward.{left_to_right_is_an_order}
use Rattle.cr_meaning_orders.proofs.laws.left_to_right_is_an_order.Goals as goal

pub returns : goal.returns
returns c = left_to_right_is_an_order
