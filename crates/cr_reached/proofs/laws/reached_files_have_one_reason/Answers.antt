use Rattle.cr_reached.proofs.Reaching.{one_reach_reason}
use Rattle.cr_reached.proofs.laws.reached_files_have_one_reason.Goals as goal

pub returns : goal.returns
returns c = one_reach_reason c.a_file_has_one_reason.ensures
