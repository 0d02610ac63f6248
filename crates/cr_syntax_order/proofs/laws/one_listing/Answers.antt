use Rattle.cr_syntax_order.proofs.Alike.{one_list}
use Rattle.cr_syntax_order.proofs.laws.one_listing.Goals as goal

pub returns : goal.returns
returns c = one_list
