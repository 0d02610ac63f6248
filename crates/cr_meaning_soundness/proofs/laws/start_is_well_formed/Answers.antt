use Rattle.cr_meaning_soundness.proofs.Worlds.{start_is_well_formed}
use Rattle.cr_meaning_soundness.proofs.laws.start_is_well_formed.Goals as goal

pub returns : goal.returns
returns c = start_is_well_formed
