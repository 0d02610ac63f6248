use Rattle.cr_meaning_files.proofs.Entered.{automatic_entered}
use Rattle.cr_meaning_files.proofs.laws.automatic_objects_are_entered.Goals as goal

pub returns : goal.returns
returns c = automatic_entered
