use Rattle.cr_meaning_declarations.proofs.UnitsLemmas.Owning.{declarators_stand_in_blocks}
use Rattle.cr_meaning_declarations.proofs.units.declarators_stand_in_blocks.Goals as goal

pub returns : goal.returns
returns c = declarators_stand_in_blocks
