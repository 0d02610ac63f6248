use Rattle.cr_meaning_loose.proofs.Judging.{one_is_first}
use Rattle.cr_meaning_loose.proofs.laws.one_is_first.Goals as goal

pub returns : goal.returns
returns c = one_is_first
