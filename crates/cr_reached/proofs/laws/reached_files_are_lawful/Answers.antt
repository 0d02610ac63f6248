use Rattle.cr_reached.proofs.Reaching.{reached_is_lawful}
use Rattle.cr_reached.proofs.laws.reached_files_are_lawful.Goals as goal

pub returns : goal.returns
returns c = reached_is_lawful
