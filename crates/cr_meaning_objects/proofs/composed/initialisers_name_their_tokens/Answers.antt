use Rattle.cr_meaning_objects.proofs.ComposedLemmas.Owning.{name_there}
use Rattle.cr_meaning_objects.proofs.composed.initialisers_name_their_tokens.Goals as goal

pub returns : goal.returns
returns c = name_there
