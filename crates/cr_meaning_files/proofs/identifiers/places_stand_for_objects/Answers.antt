use Rattle.cr_meaning_files.proofs.Designated.{places}
use Rattle.cr_meaning_files.proofs.identifiers.places_stand_for_objects.Goals as goal

pub returns : goal.returns
returns c = places
