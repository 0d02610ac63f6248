use Rattle.cr_order.proofs.Ordering.{excludes_order}
use Rattle.cr_order.proofs.laws.ordered_files_have_no_reason.Goals as goal

pub returns : goal.returns
returns c = excludes_order
