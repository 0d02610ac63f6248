use Rattle.cr_meaning_soundness.proofs.Outcomes.{programs_have_outcomes}
use Rattle.cr_meaning_soundness.proofs.laws.programs_have_outcomes.Goals as goal

pub returns : goal.returns
returns c = programs_have_outcomes
