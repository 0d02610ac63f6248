use Rattle.cr_reached.proofs.Reaching.{excludes_reached}
use Rattle.cr_reached.proofs.laws.reached_files_have_no_reason.Goals as goal

pub returns : goal.returns
returns c = excludes_reached
