use Rattle.cr_meaning_objects.proofs.InitialisedLemmas.Asked.{asked_tested}
use Rattle.cr_meaning_objects.proofs.initialised.arrays_are_asked_for.Goals as goal

pub returns : goal.returns
returns c = asked_tested
