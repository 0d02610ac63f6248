use Rattle.cr_meaning_loose.proofs.Judging.{loose_is_not_fixed}
use Rattle.cr_meaning_loose.proofs.laws.loose_is_not_fixed.Goals as goal

pub returns : goal.returns
returns c = loose_is_not_fixed
