use Rattle.cr_meaning_objects.proofs.ComposedLemmas.Naming.{has_name}
use Rattle.cr_meaning_objects.proofs.composed.initialisers_have_names.Goals as goal

pub returns : goal.returns
returns c = has_name
