use Rattle.cr_meaning_objects.proofs.KeptLemmas.Seen.{see}
use Rattle.cr_meaning_objects.proofs.kept.places_see_objects.Goals as goal

pub returns : goal.returns
returns c = see
