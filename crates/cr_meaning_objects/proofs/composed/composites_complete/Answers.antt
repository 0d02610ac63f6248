use Rattle.cr_meaning_objects.proofs.ComposedLemmas.Named.{complete}
use Rattle.cr_meaning_objects.proofs.composed.composites_complete.Goals as goal

pub returns : goal.returns
returns c = complete
