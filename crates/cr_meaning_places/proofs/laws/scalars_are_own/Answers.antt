use Rattle.cr_meaning_places.proofs.Own.{scalars_are_own}
use Rattle.cr_meaning_places.proofs.laws.scalars_are_own.Goals as goal

pub returns : goal.returns
returns c = scalars_are_own
