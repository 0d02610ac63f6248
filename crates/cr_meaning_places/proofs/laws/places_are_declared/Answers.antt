use Rattle.cr_meaning_places.proofs.Running.{places_are_declared}
use Rattle.cr_meaning_places.proofs.laws.places_are_declared.Goals as goal

pub returns : goal.returns
returns c = places_are_declared
