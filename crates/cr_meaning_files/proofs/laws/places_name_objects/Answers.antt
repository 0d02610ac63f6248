use Rattle.cr_meaning_files.proofs.Files.{place_names}
use Rattle.cr_meaning_files.proofs.laws.places_name_objects.Goals as goal

pub returns : goal.returns
returns c = place_names
