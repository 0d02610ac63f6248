use Rattle.cr_meaning_objects.proofs.ComposedLemmas.Named.{objects_named}
use Rattle.cr_meaning_objects.proofs.composed.names_of_objects_are_objects.Goals as goal

pub returns : goal.returns
returns c = objects_named
