use Rattle.cr_meaning_objects.proofs.InitialisedLemmas.Taken.{taken}
use Rattle.cr_meaning_objects.proofs.initialised.initialisers_are_taken.Goals as goal

pub returns : goal.returns
returns c = taken
