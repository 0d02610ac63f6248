use Rattle.cr_meaning_files.proofs.Visible.{have}
use Rattle.cr_meaning_files.proofs.identifiers.uses_have_entities.Goals as goal

pub returns : goal.returns
returns c = have
