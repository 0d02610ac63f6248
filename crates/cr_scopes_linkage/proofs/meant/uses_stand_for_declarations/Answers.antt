use Rattle.cr_scopes_linkage.proofs.MeantLemmas.Entities.{stand}
use Rattle.cr_scopes_linkage.proofs.meant.uses_stand_for_declarations.Goals as goal

pub returns : goal.returns
returns c = stand
