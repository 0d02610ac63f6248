use Rattle.cr_ints.proofs.Promotions.{promote_of-represents}
use Rattle.cr_ints.proofs.laws.promotion_keeps_values.Goals as goal

pub returns : goal.returns
returns c = promote_of-represents
