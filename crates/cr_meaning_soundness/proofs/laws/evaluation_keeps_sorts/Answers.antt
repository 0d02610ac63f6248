use Rattle.cr_meaning_soundness.proofs.Running.{evaluation_keeps_sorts}
use Rattle.cr_meaning_soundness.proofs.laws.evaluation_keeps_sorts.Goals as goal

pub returns : goal.returns
returns c = evaluation_keeps_sorts
