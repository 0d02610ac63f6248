use Rattle.cr_meaning_objects.proofs.ComposedLemmas.Told.{declared}
use Rattle.cr_meaning_objects.proofs.composed.declared_values_have_entities.Goals as goal

pub returns : goal.returns
returns c = declared
