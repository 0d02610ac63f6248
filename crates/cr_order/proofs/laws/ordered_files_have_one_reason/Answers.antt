use Rattle.cr_order.proofs.Ordering.{one_order_reason}
use Rattle.cr_order.proofs.laws.ordered_files_have_one_reason.Goals as goal

pub returns : goal.returns
returns c = one_order_reason c.a_file_has_one_reason.ensures
