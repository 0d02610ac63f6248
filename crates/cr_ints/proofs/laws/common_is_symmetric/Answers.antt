use Rattle.cr_ints.proofs.Promotions.{common_of-symmetric}
use Rattle.cr_ints.proofs.laws.common_is_symmetric.Goals as goal

pub returns : goal.returns
returns c = common_of-symmetric
