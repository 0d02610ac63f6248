use Rattle.cr_core.proofs.Totals.{each_in_order}
use Rattle.cr_core.proofs.laws.each_list_is_in_order.Goals as goal

pub returns : goal.returns
returns c = each_in_order
