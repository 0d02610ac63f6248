use Rattle.cr_meaning_objects.proofs.ComposedLemmas.Standing.{stand}
use Rattle.cr_meaning_objects.proofs.composed.initialisers_stand_in_declarations.Goals as goal

pub returns : goal.returns
returns c = stand
