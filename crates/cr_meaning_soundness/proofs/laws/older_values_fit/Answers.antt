use Rattle.cr_meaning_soundness.proofs.Running.{older_values_fit}
use Rattle.cr_meaning_soundness.proofs.laws.older_values_fit.Goals as goal

pub returns : goal.returns
returns c = older_values_fit
