use Rattle.cr_core.proofs.Totals.{least_first}
use Rattle.cr_core.proofs.laws.the_least_hit_is_first.Goals as goal

pub returns : goal.returns
returns c = least_first
