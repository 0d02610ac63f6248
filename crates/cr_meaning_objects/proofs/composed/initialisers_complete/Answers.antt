use Rattle.cr_meaning_objects.proofs.ComposedLemmas.Named.{initialised}
use Rattle.cr_meaning_objects.proofs.composed.initialisers_complete.Goals as goal

pub returns : goal.returns
returns c = initialised
