use Rattle.cr_meaning_places.proofs.Units.{units_have_declared_places}
use Rattle.cr_meaning_places.proofs.laws.units_have_declared_places.Goals as goal

pub returns : goal.returns
returns c = units_have_declared_places
