use Rattle.cr_meaning_objects.proofs.MainsLemmas.Defined.{defined_once}
use Rattle.cr_meaning_objects.proofs.mains.names_are_defined_once.Goals as goal

pub returns : goal.returns
returns c = defined_once
