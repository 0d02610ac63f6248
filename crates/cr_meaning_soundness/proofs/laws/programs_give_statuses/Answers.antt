use Rattle.cr_meaning_soundness.proofs.Running.{programs_give_statuses}
use Rattle.cr_meaning_soundness.proofs.laws.programs_give_statuses.Goals as goal

pub returns : goal.returns
returns c = programs_give_statuses
