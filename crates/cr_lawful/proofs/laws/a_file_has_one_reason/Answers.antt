use Rattle.cr_lawful.proofs.OneReason.{one_reason}
use Rattle.cr_lawful.proofs.laws.a_file_has_one_reason.Goals as goal

pub returns : goal.returns
returns c = one_reason
