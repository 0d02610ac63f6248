use Rattle.cr_lawful.proofs.Endings.{one_end}
use Rattle.cr_lawful.proofs.ends.a_file_has_one_end.Goals as goal

pub returns : goal.returns
returns c = one_end
