use Rattle.cr_meaning_objects.proofs.ComposedLemmas.Owned.{own}
use Rattle.cr_meaning_objects.proofs.composed.initialisers_are_objects.Goals as goal

pub returns : goal.returns
returns c = own
